-- Lines make one listing.
use Rattle.std.proofs.Common.{◌≡◌, ℕ, ◌-◌, List, [], ◌∷◌, ◌++◌, length, get_or, sym, refl, ap, ap₂, ◌∙◌, subst, length-append, arith}
use Rattle.std.specs.Prelude.{slice_set}
use Rattle.std.proofs.lemmas.List.{same_from_push}
use Rattle.std.specs.Str.Parse.{digits_value, without_leading_plus}
use Rattle.plan.specs.Contents.{contents}
use Rattle.plan.proofs.Answered.{one_answer_each}
use Rattle.plan.proofs.Facts.{contents_tell}
use Rattle.policy.specs.declared.codes.Code.{Code}
use Rattle.policy.specs.declared.codes.Code.TheVariants.{FixedPriority, RateMonotonic, EarliestDeadline}
use Rattle.policy.specs.Codes.{number_of}
use Rattle.plantext.specs.declared.notation.Key.{Key}
use Rattle.plantext.specs.declared.notation.Line.{Line}
use Rattle.plantext.specs.declared.notation.Line.TheVariants.{Empty, Handler, Join, CoreCode}
use Rattle.plantext.specs.Lines.{Then, Says}
use Rattle.plantext.specs.declared.listing.Listing.{Listing}
use Rattle.plantext.specs.Taking.{handler_of, byte_of, before_comment, Took, SplitsInto, TookText, Lists, begun, then}
use Rattle.plantext.proofs.OneCut.{one_cut}

-- listings with the same contents and codes are one
pub same_listing : (l m : Listing) → contents l.plan ≡ contents m.plan → l.codes ≡ m.codes → l ≡ m
same_listing l m plans codes_are = ap₂ (λ p cs. record { plan = p; codes = cs }) (contents_tell l.plan m.plan plans) codes_are

-- a number names one code
pub one_code : (c d : Code) → number_of c ≡ number_of d → c ≡ d
one_code FixedPriority FixedPriority e = refl
one_code FixedPriority RateMonotonic e = absurd (omega (arith, e))
one_code FixedPriority EarliestDeadline e = absurd (omega (arith, e))
one_code RateMonotonic FixedPriority e = absurd (omega (arith, e))
one_code RateMonotonic RateMonotonic e = refl
one_code RateMonotonic EarliestDeadline e = absurd (omega (arith, e))
one_code EarliestDeadline FixedPriority e = absurd (omega (arith, e))
one_code EarliestDeadline RateMonotonic e = absurd (omega (arith, e))
one_code EarliestDeadline EarliestDeadline e = refl

-- ---- words say one thing

-- both readings of a field have one number, and one rest
record Both (m n : ℕ) (Such Other : List (List ℕ) → Type 0) : Type 0 where
  same : m ≡ n
  left : List (List ℕ)
  such : Such left
  other : Other left

both : (ws : List (List ℕ)) (key : Key) (m n : ℕ) (Such Other : List (List ℕ) → Type 0) → Then ws key m Such → Then ws key n Other → Both m n Such Other
both ws key m n Such Other x y =
    let words : x.1.word ≡ y.1.word = cc (x.1.starts, y.1.starts) in
    let rests : y.0 ≡ x.0 = cc (x.1.starts, y.1.starts) in
    record {
      same = x.1.writes.is ∙ ap (λ w. digits_value 10 (without_leading_plus w)) words ∙ sym y.1.writes.is;
      left = x.0;
      such = x.2;
      other = subst Other rests y.2;
    }

-- the first letter tells what kind of line it is
abbrev letter : List (List ℕ) → ℕ
letter ws = get_or (get_or ws 0 []) 0 0

abbrev letter_of : Line → ℕ
letter_of Empty = 0
letter_of (Handler h) = 104
letter_of (Join j) = 106
letter_of (CoreCode k) = 99

letter_is : (ws : List (List ℕ)) (line : Line) → Says ws line → letter ws ≡ letter_of line
letter_is ws Empty says = ap letter says
letter_is ws (Handler h) says = ap letter says.1
letter_is ws (Join j) says = ap letter says.1
letter_is ws (CoreCode k) says = ap letter says.1.starts

says_one : (ws : List (List ℕ)) (a b : Line) → letter_of a ≡ letter_of b → Says ws a → Says ws b → b ≡ a
says_one ws Empty Empty e x y = refl
says_one ws Empty (Handler h) e x y = absurd (omega (arith, e))
says_one ws Empty (Join j) e x y = absurd (omega (arith, e))
says_one ws Empty (CoreCode k) e x y = absurd (omega (arith, e))
says_one ws (Handler h) Empty e x y = absurd (omega (arith, e))
says_one ws (Handler h) (Handler g) e x y =
    let rests : y.0 ≡ x.0 = cc (x.1, y.1) in
    let core = both x.0 _ h.core g.core _ _ x.2 (subst (λ r. Then r _ g.core _) rests y.2) in
    let period = both core.left _ h.period g.period _ _ core.such core.other in
    let offset = both period.left _ h.offset g.offset _ _ period.such period.other in
    let shortest = both offset.left _ h.shortest g.shortest _ _ offset.such offset.other in
    let longest = both shortest.left _ h.longest g.longest _ _ shortest.such shortest.other in
    ap Handler (rw (← core.same, ← period.same, ← offset.same, ← shortest.same, ← longest.same) refl)
says_one ws (Handler h) (Join j) e x y = absurd (omega (arith, e))
says_one ws (Handler h) (CoreCode k) e x y = absurd (omega (arith, e))
says_one ws (Join j) Empty e x y = absurd (omega (arith, e))
says_one ws (Join j) (Handler h) e x y = absurd (omega (arith, e))
says_one ws (Join j) (Join i) e x y =
    let rests : y.0 ≡ x.0 = cc (x.1, y.1) in
    let first = both x.0 _ j.first i.first _ _ x.2 (subst (λ r. Then r _ i.first _) rests y.2) in
    let second = both first.left _ j.second i.second _ _ first.such first.other in
    ap Join (rw (← first.same, ← second.same) refl)
says_one ws (Join j) (CoreCode k) e x y = absurd (omega (arith, e))
says_one ws (CoreCode k) Empty e x y = absurd (omega (arith, e))
says_one ws (CoreCode k) (Handler h) e x y = absurd (omega (arith, e))
says_one ws (CoreCode k) (Join j) e x y = absurd (omega (arith, e))
says_one ws (CoreCode k) (CoreCode l) e x y =
    let core = both ws _ k.core l.core _ _ x y in
    let code = both core.left _ k.code l.code _ _ core.such core.other in
    ap CoreCode (rw (← core.same, ← code.same) refl)

-- ---- a line makes one listing

took_one : (line : Line) (was next other : Listing) → Took line was next → Took line was other → other ≡ next
took_one Empty was next other x y = y ∙ sym x
took_one (Handler h) was next other x y =
    let one = one_answer_each.register (contents was.plan) (handler_of h) _ _ (contents next.plan) (contents other.plan) x.0.1 y.0.1 in
    same_listing other next one.1 (y.1 ∙ sym x.1)
took_one (Join j) was next other x y =
    let one = one_answer_each.join (contents was.plan) (byte_of j.first) (byte_of j.second) _ _ (contents next.plan) (contents other.plan) x.0 y.0 in
    same_listing other next one.1 (y.1 ∙ sym x.1)
took_one (CoreCode k) was next other x y =
    let code = one_code y.code x.code (y.named ∙ sym x.named) in
    same_listing other next (ap contents (y.plan ∙ sym x.plan)) (y.codes ∙ ap (slice_set was.codes (k.core - 1)) code ∙ sym x.codes)

-- the words of a text say one thing
pub said_one : (text : List ℕ) (ws vs : List (List ℕ)) (a b : Line) → SplitsInto text ws → SplitsInto text vs → Says ws a → Says vs b → b ≡ a
said_one text ws vs a b cut_a cut_b x y =
    let says : Says ws b = subst (λ us. Says us b) (one_cut text ws vs cut_a cut_b) y in
    says_one ws a b (sym (letter_is ws a x) ∙ letter_is ws b says) x says

text_one : (text : List ℕ) (was next other : Listing) → TookText text was next → TookText text was other → other ≡ next
text_one text was next other x y =
    let line : y.line ≡ x.line = said_one (before_comment text) x.words y.words x.line y.line x.cut y.cut x.says y.says in
    took_one x.line was next other x.took (subst (λ l. Took l was other) line y.took)

pub not_empty : (xs : List (List ℕ)) (x : List ℕ) → ¬ (xs ++ x ∷ [] ≡ [])
not_empty xs x e = omega (arith, length-append xs (x ∷ []), ap length e)

pub one_listing : {ls ms : List (List ℕ)} {l m : Listing} → Lists ls l → Lists ms m → ms ≡ ls → m ≡ l
one_listing (begun {l} x) (begun {l = m} y) e = same_listing m l (y.0 ∙ sym x.0) (y.1 ∙ sym x.1)
one_listing (begun x) (then {lines} line before took) e = absurd (not_empty lines line e)
one_listing (then {lines} line before took) (begun y) e = absurd (not_empty lines line (sym e))
one_listing (then {lines} {was} {next} line before took) (then {lines = others} {was = then_was} {next = other} also earlier then_took) e =
    let q = same_from_push others lines also line e in
    let one : then_was ≡ was = one_listing before earlier q.0 in
    text_one line was next other took (subst (λ w. TookText line w other) one (subst (λ t. TookText t then_was other) q.1 then_took))
