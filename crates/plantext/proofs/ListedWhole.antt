-- The lines of a printed text make the listing that was printed.
use Rattle.std.proofs.Common.{◌≡◌, ℕ, zero, suc, ◌+◌, ◌-◌, ◌^◌, ◌<◌, List, [], ◌∷◌, ◌++◌, length, get_or, take, drop, set, replicate, map, sym, refl, ap, ap₂, ◌∙◌, subst, append_assoc, append-nil, length-take-le, drop-cons, arith}
use Rattle.std.specs.Prelude.{slice_index, slice_set}
use Rattle.std.specs.List.{flat_map, range_with_len, Contains as Has}
use Rattle.std.specs.Str.Lines.{lines}
use Rattle.std.proofs.lemmas.List.{take_more, take_all, set_at, get_or-map, length-map}
use Rattle.gather.proofs.Counting.{has_here, has_there}
use Rattle.plan.specs.Contents.{Contents, contents, empty, Sound}
use Rattle.policy.specs.declared.codes.Code.{Code}
use Rattle.policy.specs.declared.codes.Code.TheVariants.{FixedPriority, RateMonotonic, EarliestDeadline}
use Rattle.policy.specs.Codes.{number_of, IsCode}
use Rattle.plantext.specs.declared.listing.Listing.{Listing}
use Rattle.plantext.specs.Taking.{Lists, begun}
use Rattle.planfile.proofs.FiledHandlers.{alone, handlers_come}
use Rattle.planfile.proofs.FiledTurns.{TakesJoins}
use Rattle.planfile.proofs.FiledJoins.{joins_come}
use Rattle.plantext.specs.Texts.{core_line, handler_line, join_line, handler_lines, join_lines, text_of}
use Rattle.plantext.specs.RoundTrips.{AllFitLines, Holds, TextIsReadBack}
use Rattle.plantext.proofs.Made.{new_made}
use Rattle.plantext.proofs.OneListing.{same_listing, one_listing}
use Rattle.plantext.proofs.Listed.{Listed, core_listed, handler_listed, join_listed}

-- fixed priority on every core
abbrev fixed : List Code
fixed = replicate 8 FixedPriority

few : (code : Code) → number_of code < 2 ^ 16
few FixedPriority = omega arith
few RateMonotonic = omega arith
few EarliestDeadline = omega arith

-- the first m codes are given
abbrev given : List Code → ℕ → List Code
given codes m = take m codes ++ drop m fixed

module _ (codes : List Code) (eight : length codes ≡ 8) where
  one_given : (m : ℕ) → m < 8 → slice_set (given codes m) m (get_or codes m FixedPriority) ≡ given codes (m + 1)
  one_given m l =
      let code = get_or codes m FixedPriority in
      let long : length (take m codes) ≡ m = length-take-le m codes (omega (arith, l, eight)) in
      let behind = drop-cons fixed m FixedPriority l in
      let next : suc m ≡ m + 1 = omega arith in
      let front : take (m + 1) codes ≡ take m codes ++ code ∷ [] = take_more codes m FixedPriority (omega (arith, l, eight)) in
      ap (λ l. set (take m codes ++ l) m code) behind ∙ set_at (take m codes) (get_or fixed m FixedPriority) (drop (suc m) fixed) code m long
      ∙ sym (append_assoc (take m codes) (code ∷ []) (drop (suc m) fixed)) ∙ ap₂ (λ l n. l ++ drop n fixed) (sym front) next

  all_given : (m : ℕ) → m ≡ 8 → given codes m ≡ codes
  all_given m e =
      ap (λ n. given codes n) e ∙ ap (λ l. l ++ []) (take_all 8 codes (omega (arith, eight))) ∙ append-nil codes

  abbrev numbers : List ℕ
  numbers = map number_of codes

  module _ (text : List ℕ) (k : Contents) where
    -- the line of the core of number c
    abbrev line : ℕ → List ℕ
    line c = core_line c (slice_index numbers (c - 1))

    cores_come : (n m : ℕ) → m + n ≡ 8 → (rest : List ℕ) → Listed text (given codes m) k (flat_map line (range_with_len (m + 1) n) ++ rest) → Listed text codes k rest
    cores_come zero m e rest p = subst (λ cs. Listed text cs k rest) (all_given m (omega (arith, e))) p
    cores_come (suc n) m e rest p =
        let code = get_or codes m FixedPriority in
        let others = flat_map line (range_with_len (m + 1 + 1) n) in
        let place : m + 1 - 1 ≡ m = omega arith in
        let number : slice_index numbers (m + 1 - 1) ≡ number_of code =
        ap (λ i. slice_index numbers i) place ∙ get_or-map number_of codes m FixedPriority 0 (omega (arith, e, eight)) in
        let there = subst (λ x. Listed text (given codes m) k (core_line (m + 1) x ++ (others ++ rest))) number
        (subst (Listed text (given codes m) k) (append_assoc (line (m + 1)) others rest) p) in
        let taken = core_listed text (given codes m) k (m + 1) code (others ++ rest) (omega arith) (omega (arith, e)) (few code) there in
        let next : slice_set (given codes m) (m + 1 - 1) code ≡ given codes (m + 1) =
        ap (λ i. slice_set (given codes m) i code) place ∙ one_given m (omega (arith, e)) in
        cores_come n (m + 1) (omega (arith, e)) rest (subst (λ cs. Listed text cs k (others ++ rest)) next taken)

  module _ (k : Contents) (sound : Sound k) (fit : AllFitLines k) where
    abbrev text : List ℕ
    text = text_of k numbers

    begun_listed : Listed text fixed empty text
    begun_listed = record {
      list = record { plan = new_made.plan; codes = fixed };
      plan = new_made.holds;
      codes_are = refl;
      before = [];
      lists = begun (new_made.holds, refl);
      rest = refl;
    }

    handlers_listed : (rest : List ℕ) → Listed text codes empty (handler_lines k ++ rest) → Listed text codes (alone k.handlers) rest
    handlers_listed rest p =
        handlers_come k sound handler_line (Listed text codes) (λ l h left among takes q. handler_listed text codes l h left (fit h among) takes q) k.handlers [] rest refl p

    taking : TakesJoins join_line (λ m. Listed text codes)
    taking = record {
      waits = λ m n l left le p. p;
      takes = λ a b l rest ka kb may p. join_listed text codes l a b rest ka.1 kb.1 may p;
    }

    all_listed : Listed text codes k []
    all_listed =
        let long : length numbers ≡ 8 = length-map codes number_of ∙ eight in
        let lines_of_cores = subst (λ n. Listed text fixed empty (flat_map (line text empty) (range_with_len 1 n) ++ (handler_lines k ++ join_lines k))) long begun_listed in
        let cores = cores_come text empty 8 0 refl (handler_lines k ++ join_lines k) lines_of_cores in
        let handlers = handlers_listed (join_lines k) cores in
        joins_come k sound join_line (λ m. Listed text codes) taking [] (subst (Listed text codes (alone k.handlers)) (sym (append-nil (join_lines k))) handlers)

    whole_lists : (list : Listing) → contents list.plan ≡ k → list.codes ≡ codes → Lists (lines text) list
    whole_lists list plan codes_are =
        let all = all_listed in
        let same : all.list ≡ list =
        same_listing all.list list (all.plan ∙ sym plan) (all.codes_are ∙ sym codes_are) in
        subst (λ ls. Lists ls list) (sym (all.rest ∙ append-nil all.before)) (subst (Lists all.before) same all.lists)

-- the codes of these numbers
codes_of : (numbers : List ℕ) → ((c : ℕ) → Has numbers c → IsCode c) → (codes : List Code) × (map number_of codes ≡ numbers)
codes_of [] each = ([], refl)
codes_of (n ∷ ns) each =
    let more = codes_of ns (λ c m. each c (has_there n c ns m)) in
    let code = each n (has_here n ns) in
    (code.0 ∷ more.0, ap₂ (λ a l. a ∷ l) code.1 more.1)

pub text_is_read_back : TextIsReadBack
text_is_read_back k numbers sound fit are =
    let made = codes_of numbers are.each in
    let eight : length made.0 ≡ 8 = sym (length-map made.0 number_of) ∙ ap length made.1 ∙ are.eight in
    let all = all_listed made.0 eight k sound fit in
    let some : Holds all.list k numbers = record { plan = all.plan; codes = ap (map number_of) all.codes_are ∙ made.1 } in
    let lists : Lists (lines (text_of k numbers)) all.list =
    subst (λ ns. Lists (lines (text_of k ns)) all.list) made.1 (whole_lists made.0 eight k sound fit all.list all.plan all.codes_are) in
    record {
      some = (all.list, some);
      same = λ list. (
        λ holds.
            (let long : length list.codes ≡ 8 = sym (length-map list.codes number_of) ∙ ap length holds.codes ∙ are.eight in
            subst (λ ns. Lists (lines (text_of k ns)) list) holds.codes (whole_lists list.codes long k sound fit list holds.plan refl)),
        λ listed. subst (λ l. Holds l k numbers) (one_listing listed lists refl) some,
      );
    }
