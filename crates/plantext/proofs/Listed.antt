-- Printed lines are listed, one after another.
use Rattle.std.proofs.Common.{◌≡◌, ℕ, ◌+◌, ◌-◌, ◌^◌, ◌<◌, ◌≤◌, Ok, List, [], ◌∷◌, ◌++◌, sym, refl, ap, ◌∙◌, subst, append_assoc, arith}
use Rattle.std.specs.Prelude.{slice_set}
use Rattle.std.specs.Char.{is_not_whitespace}
use Rattle.std.specs.Str.Lines.{lines}
use Rattle.std.proofs.lemmas.Str.{NoCharPasses-nil}
use Rattle.plan.specs.declared.handlers.Handler.{Handler}
use Rattle.plan.specs.Contents.{Contents, contents, count}
use Rattle.plan.specs.Calls.{added, Takes, Registers, with_join, MayJoin, Joins}
use Rattle.plan.proofs.Tested.{taken_registers, taken_joins}
use Rattle.policy.specs.declared.codes.Code.{Code}
use Rattle.policy.specs.Codes.{number_of}
use Rattle.plantext.specs.declared.notation.Line.{Line}
use Rattle.plantext.specs.declared.notation.Line.TheVariants.{Handler as AHandler, Join, CoreCode}
use Rattle.plantext.specs.Lines.{Says}
use Rattle.plantext.specs.declared.listing.Listing.{Listing}
use Rattle.plantext.specs.Taking.{byte_of, handler_of, Took, SplitsInto, Lists, then}
use Rattle.plantext.specs.Texts.{core_line, handler_line, join_line}
use Rattle.plantext.specs.RoundTrips.{FitsLine}
use Rattle.plantext.proofs.Words.{AreWords, spaced, spaced_without, splits}
use Rattle.plantext.proofs.Breaks.{first_line, no_comment}
use Rattle.plantext.proofs.Sayings.{core_words, handler_words, join_words, core_are_words, core_says, line_of, handler_are_words, handler_says, join_are_words, join_says}
use Rattle.plantext.proofs.Printed.{core_spaced, handler_spaced, join_spaced}
use Rattle.plantext.proofs.Made.{registered, joined}

module _ (text : List ℕ) where
  -- the lines of the text so far make a listing that holds k and these codes, and this is left of the text
  pub record Listed (codes : List Code) (k : Contents) (left : List ℕ) : Type 0 where
    pub list : Listing
    pub plan : contents list.plan ≡ k
    pub codes_are : list.codes ≡ codes
    pub before : List (List ℕ)
    pub lists : Lists before list
    pub rest : lines text ≡ before ++ lines left

  -- the next line is taken
  one_line : (codes more : List Code) (k l : Contents) (left rest : List ℕ) (ws : List (List ℕ)) (line : Line) (p : Listed codes k left)
      → left ≡ spaced ws ++ 10 ∷ rest → AreWords ws → Says ws line
      → (next : Listing) → contents next.plan ≡ l → next.codes ≡ more → Took line p.list next → Listed more l rest
  one_line codes more k l left rest ws line p e are says next plan codes_are took =
      let body = spaced ws in
      let without : (c : ℕ) (low : c < 48) → ¬ (32 ≡ c) → Rattle.plantext.proofs.Words.Without c low body = λ c low ne. spaced_without c low ne ws are in
      let cut : SplitsInto body ws = splits [] (NoCharPasses-nil is_not_whitespace) ws are in
      record {
        list = next;
        plan = plan;
        codes_are = codes_are;
        before = p.before ++ body ∷ [];
        lists =
            then body p.lists
            (record {
              words = ws;
              line = line;
              cut = subst (λ b. SplitsInto b ws) (sym (no_comment body (without 35 (omega arith) (λ e. omega (arith, e))))) cut;
              says = says;
              took = took;
            });
        rest =
            p.rest
            ∙ ap (λ ls. p.before ++ ls) (ap lines e ∙ first_line body rest (without 10 (omega arith) (λ e. omega (arith, e))) (without 13 (omega arith) (λ e. omega (arith, e))))
            ∙ sym (append_assoc p.before (body ∷ []) (lines rest));
      }

  small : (n : ℕ) → n ≤ 64 → byte_of n ≡ n
  small n l = omega (arith, l)

  module _ (codes : List Code) (k : Contents) where
    pub core_listed : (c : ℕ) (code : Code) (rest : List ℕ) → 1 ≤ c → c ≤ 8 → number_of code < 2 ^ 16
        → Listed codes k (core_line c (number_of code) ++ rest) → Listed (slice_set codes (c - 1) code) k rest
    core_listed c code rest low high few p =
        one_line codes (slice_set codes (c - 1) code) k k (core_line c (number_of code) ++ rest) rest (core_words c (number_of code))
        (CoreCode record { core = c; code = number_of code }) p (core_spaced rest c (number_of code))
        (core_are_words c (number_of code) (omega (arith, high)) few) (core_says c (number_of code) (omega (arith, high)) few)
        (record { plan = p.list.plan; codes = slice_set p.list.codes (c - 1) code }) p.plan (ap (λ cs. slice_set cs (c - 1) code) p.codes_are)
        (record { low = low; high = high; code = code; named = refl; codes = refl; plan = refl })

    pub handler_listed : (h : Handler) (rest : List ℕ) → FitsLine h → Takes k h → Listed codes k (handler_line h ++ rest) → Listed codes (added k h) rest
    handler_listed h rest fits takes p =
        let takes_there : Takes (contents p.list.plan) h = subst (λ l. Takes l h) (sym p.plan) takes in
        let low : h.core ≤ 8 = takes.range.4 in
        let made = registered p.list.plan h takes_there in
        let same : handler_of (line_of h fits low) ≡ h =
        ap (λ c. record { period = h.period; offset = h.offset; shortest = h.shortest; longest = h.longest; core = c }) (small h.core (omega (arith, low))) in
        let taken : Registers (contents p.list.plan) (handler_of (line_of h fits low)) (Ok (count (contents p.list.plan) + 1)) (contents made.plan) =
        subst (λ x. Registers (contents p.list.plan) x (Ok (count (contents p.list.plan) + 1)) (contents made.plan)) (sym same)
        (subst (Registers (contents p.list.plan) h (Ok (count (contents p.list.plan) + 1))) (sym made.holds) (taken_registers (contents p.list.plan) h takes_there)) in
        one_line codes codes k (added k h) (handler_line h ++ rest) rest (handler_words h) (AHandler (line_of h fits low)) p (handler_spaced rest h)
        (handler_are_words h fits low) (handler_says h fits low) (record { plan = made.plan; codes = p.list.codes })
        (made.holds ∙ ap (λ l. added l h) p.plan) p.codes_are ((count (contents p.list.plan) + 1, taken), refl)

    pub join_listed : (a b : ℕ) (rest : List ℕ) → a ≤ 64 → b ≤ 64 → MayJoin k a b → Listed codes k (join_line a b ++ rest) → Listed codes (with_join k a b) rest
    join_listed a b rest ha hb may p =
        let may_there : MayJoin (contents p.list.plan) a b = subst (λ l. MayJoin l a b) (sym p.plan) may in
        let made = joined p.list.plan a b may_there in
        let taken : Joins (contents p.list.plan) (byte_of a) (byte_of b) (Ok tt) (contents made.plan) =
        subst (λ x. Joins (contents p.list.plan) x (byte_of b) (Ok tt) (contents made.plan)) (sym (small a ha))
        (subst (λ y. Joins (contents p.list.plan) a y (Ok tt) (contents made.plan)) (sym (small b hb))
        (subst (Joins (contents p.list.plan) a b (Ok tt)) (sym made.holds) (taken_joins (contents p.list.plan) a b may_there))) in
        one_line codes codes k (with_join k a b) (join_line a b ++ rest) rest (join_words a b) (Join record { first = a; second = b }) p (join_spaced rest a b)
        (join_are_words a b (omega (arith, ha)) (omega (arith, hb))) (join_says a b (omega (arith, ha)) (omega (arith, hb)))
        (record { plan = made.plan; codes = p.list.codes }) (made.holds ∙ ap (λ l. with_join l a b) p.plan) p.codes_are (taken, refl)
