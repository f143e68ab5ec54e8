-- What is printed of the first bytes of an input is printed of all of it.
use Rattle.std.proofs.Common.{◌≡◌, ℕ, ◌+◌, ◌≤◌, List, ◌++◌, length, take, Some, None, Option, sym, ap, ◌∙◌, subst, inl, inr, append_assoc, length-append, length-take-le, arith}
use Rattle.std.specs.Io.KnownBytes.{Keeps, Consumes}
use Rattle.std.proofs.lemmas.List.{take-append-le}
use Rattle.std.proofs.Math.Seq.{take-append-add}
use Rattle.planfile.specs.Theorems.{AreBytes, longest}
use Rattle.planfile.proofs.FirstBytes.{first_bytes_decide}
use Rattle.report.specs.declared.words.Answer.{Answer}
use Rattle.report.specs.Said.{Answers}
use Rattle.report.specs.Lines.{most_read, Prints, PrintsWhole}

module _ (n : ℕ) (enough : longest + 10 ≤ n) (bytes : List ℕ) (small : AreBytes (take n bytes)) where
  answers_all : (a : Answer) → Answers (take n bytes) a → Answers bytes a
  answers_all a (inl f) =
      inl record {
        contents = f.contents;
        codes = f.codes;
        file = first_bytes_decide.file n bytes enough small f.contents _ f.file;
        verdict = f.verdict;
        is = f.is;
        answer = f.answer;
      }
  answers_all a (inr f) = inr record { fault = f.fault; refused = first_bytes_decide.refused n bytes enough small f.fault f.refused; answer = f.answer }

pub prints_whole : (bytes text : List ℕ) → AreBytes bytes → Prints bytes text → PrintsWhole bytes text
prints_whole bytes text small p input read =
    let q = subst (λ l. Prints l text) (sym read) p in
    record { answer = q.answer; said = answers_all most_read (omega arith) input (subst AreBytes (sym read) small) q.answer q.said; line = q.line }

-- ---- what a reader has left, where that is known, after two reads

pub keeps_on : (a b c : Option (List ℕ)) → Keeps a b → Keeps b c → Keeps a c
keeps_on None b c x y = tt
keeps_on (Some xs) None c x y = absurd x
keeps_on (Some xs) (Some ys) None x y = absurd y
keeps_on (Some xs) (Some ys) (Some zs) x y = y ∙ x

pub consumes_on : (a b c : Option (List ℕ)) (bs cs : List ℕ) → Consumes a b bs → Consumes b c cs → Consumes a c (bs ++ cs)
consumes_on None b c bs cs x y = tt
consumes_on (Some xs) None c bs cs x y = absurd x
consumes_on (Some xs) (Some ys) None bs cs x y = absurd y
consumes_on (Some xs) (Some ys) (Some zs) bs cs x y = x ∙ ap (λ l. bs ++ l) y ∙ sym (append_assoc bs cs zs)

-- ---- one read more into the buffer, behind what came so far

module _ (filled count : ℕ) (buffer new rest : List ℕ) (fits : filled ≤ length buffer) (few : count ≤ length new) where
  front_long : length (take filled buffer) ≡ filled
  front_long = length-take-le filled buffer fits

  pub fits_more : filled + count ≤ length (take filled buffer ++ (new ++ rest))
  fits_more = omega (arith, few, front_long, length-append (take filled buffer) (new ++ rest), length-append new rest)

  pub came_more : take (filled + count) (take filled buffer ++ (new ++ rest)) ≡ take filled buffer ++ take count new
  came_more =
      ap (λ n. take (n + count) (take filled buffer ++ (new ++ rest))) (sym front_long)
      ∙ take-append-add (take filled buffer) (new ++ rest) count ∙ ap (λ l. take filled buffer ++ l) (take-append-le count new rest few)
