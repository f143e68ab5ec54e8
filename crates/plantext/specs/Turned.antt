-- Text turned into a file, and a file into text.
use Rattle.std.specs.Prelude.{◌≡◌, ℕ, ◌+◌, ◌≤◌, List, take, map}
use Rattle.plan.specs.Contents.{Contents, contents}
use Rattle.policy.specs.Codes.{number_of}
use Rattle.plantext.specs.declared.listing.Listing.{Listing}
use Rattle.plantext.specs.Taking.{Lists}
use Rattle.planfile.specs.Files.{file_of, record_length}
use Rattle.planfile.specs.Reads.{IsFile}
use Rattle.planfile.specs.Theorems.{longest}
use Rattle.plantext.specs.Texts.{text_of}

-- the bytes are the file of a listing that these lines make
pub record IsFileOf (lines : List (List ℕ)) (bytes : List ℕ) : Type 0 where
  pub list : Listing
  pub lists : Lists lines list
  pub file : bytes ≡ file_of (contents list.plan) (map number_of list.codes)

-- the bytes are a file, and this is the text of its plan and codes
pub record IsTextOf (bytes text : List ℕ) : Type 0 where
  pub contents : Contents
  pub codes : List ℕ
  pub file : IsFile bytes contents codes
  pub is : text ≡ text_of contents codes

-- so it is of every input whose first n bytes these are, where n is no less than the longest file and
-- one handler's record more; these are all bytes of an input that is shorter
abbrev pub OfEveryInput : List ℕ → (List ℕ → Type 0) → Type 0
OfEveryInput bytes Such =
    (n : ℕ) (input : List ℕ) → longest + record_length 1 ≤ n → take n input ≡ bytes → Such input
