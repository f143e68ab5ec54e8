-- The records of a file, each by the number that it is of.
use Rattle.std.proofs.Common.{◌≡◌, ℕ, suc, ◌+◌, ◌-◌, ◌<◌, ◌&&◌, nat_le, true, cond, List, [], ◌∷◌, ◌++◌, length, get_or, flat_map, le-leb, refl, sym, ap, ap₂, add-zero, add-one, ◌∙◌, arith}
use Rattle.std.specs.List.{range_with_len}
use Rattle.plan.specs.declared.handlers.Handler.{Handler}
use Rattle.plan.specs.Rows.{blank}
use Rattle.plan.specs.Contents.{Contents, at, count, known}
use Rattle.planfile.specs.Files.{handler_record, handler_records, numbers, core_record, core_records}
use Rattle.planfile.specs.Writes.{record_if_known}

-- going along a list is going along the numbers of its elements, from a on
along_numbers : {X : Type 0} (g : X → List ℕ) (d : X) (f : ℕ → List ℕ) (xs : List X) (a : ℕ) → ((i : ℕ) → i < length xs → f (a + i) ≡ g (get_or xs i d))
    → flat_map f (range_with_len a (length xs)) ≡ flat_map g xs
along_numbers g d f [] a same = refl
along_numbers g d f (x ∷ xs) a same =
    ap₂ (λ l m. l ++ m) (ap f (sym (add-zero a)) ∙ same 0 (omega arith)) (along_numbers g d f xs (a + 1) (λ i l. ap f (omega arith) ∙ same (suc i) (omega (arith, l))))

-- what is written of each handler, by the numbers
pub by_number : (g : Handler → List ℕ) (k : Contents) → flat_map (λ n. cond (known k n) (g (at k (n - 1))) []) (numbers k) ≡ flat_map g k.handlers
by_number g k = along_numbers g blank (λ n. cond (known k n) (g (at k (n - 1))) []) k.handlers 1 (λ i l.
    let low : nat_le 1 (1 + i) ≡ true = le-leb 1 (1 + i) (omega arith) in
    let high : nat_le (1 + i) (count k) ≡ true = le-leb (1 + i) (count k) (omega (arith, l)) in
    let place : 1 + i - 1 ≡ i = omega arith in
    ap₂ (λ a b. cond (a && b) (g (at k (1 + i - 1))) []) low high ∙ ap (λ n. g (at k n)) place)

pub handlers_by_number : (k : Contents) → flat_map (record_if_known k) (numbers k) ≡ handler_records k
handlers_by_number = by_number handler_record

-- the record of the core of number c
abbrev pub core_bytes : List ℕ → ℕ → List ℕ
core_bytes codes c = core_record c (get_or codes (c - 1) 0)

along_cores : (f : ℕ → List ℕ) (codes : List ℕ) (a : ℕ) → ((i : ℕ) → i < length codes → f (a + i) ≡ core_record (a + i) (get_or codes i 0))
    → flat_map f (range_with_len a (length codes)) ≡ core_records a codes
along_cores f [] a same = refl
along_cores f (code ∷ codes) a same =
    ap₂ (λ l m. l ++ m) (ap f (sym (add-zero a)) ∙ same 0 (omega arith) ∙ ap (λ n. core_record n code) (add-zero a))
    (along_cores f codes (a + 1) (λ i l. let e : a + 1 + i ≡ a + suc i = omega arith in ap f e ∙ same (suc i) (omega (arith, l)) ∙ ap (λ n. core_record n (get_or codes i 0)) (sym e))
    ∙ ap (λ n. core_records n codes) (add-one a))

pub cores_by_number : (codes : List ℕ) (n : ℕ) → length codes ≡ n → flat_map (core_bytes codes) (range_with_len 1 n) ≡ core_records 1 codes
cores_by_number codes n long =
    ap (λ m. flat_map (core_bytes codes) (range_with_len 1 m)) (sym long)
    ∙ along_cores (core_bytes codes) codes 1 (λ i l. let place : 1 + i - 1 ≡ i = omega arith in ap (λ n. core_record (1 + i) (get_or codes n 0)) place)
