-- What is proved of the text form.
use Rattle.std.specs.Prelude.{◌≡◌, ℕ, ◌^◌, ◌<◌, ◌↔◌, List, map}
use Rattle.std.specs.List.{Contains as Has}
use Rattle.std.specs.Str.Lines.{lines}
use Rattle.plan.specs.declared.handlers.Handler.{Handler}
use Rattle.plan.specs.Contents.{Contents, contents, Sound}
use Rattle.policy.specs.Codes.{number_of}
use Rattle.plantext.specs.declared.listing.Listing.{Listing}
use Rattle.plantext.specs.Taking.{Lists}
use Rattle.planfile.specs.Theorems.{AreCodes}
use Rattle.plantext.specs.Texts.{text_of}
use Rattle.plantext.specs.Turned.{IsFileOf}

-- a line can name the numbers of the handler: they have 16 bits, as in every plan in memory
pub record FitsLine (h : Handler) : Type 0 where
  pub period : h.period < 2 ^ 16
  pub offset : h.offset < 2 ^ 16
  pub shortest : h.shortest < 2 ^ 16
  pub longest : h.longest < 2 ^ 16

-- so it is for all handlers
abbrev pub AllFitLines : Contents → Type 0
AllFitLines k = (h : Handler) → Has k.handlers h → FitsLine h

-- the listing holds k, and the codes of these numbers
pub record Holds (list : Listing) (k : Contents) (numbers : List ℕ) : Type 0 where
  pub plan : contents list.plan ≡ k
  pub codes : map number_of list.codes ≡ numbers

-- some listing holds k and these codes, and it is what the lines of their text make of a new one; no other listing is
pub record IsReadBack (k : Contents) (codes : List ℕ) : Type 0 where
  pub some : (list : Listing) × Holds list k codes
  pub same : (list : Listing) → Holds list k codes ↔ Lists (lines (text_of k codes)) list

-- what is printed of a plan and codes is read back as they were
abbrev pub TextIsReadBack : Type 0
TextIsReadBack = (k : Contents) (codes : List ℕ) → Sound k → AllFitLines k → AreCodes codes → IsReadBack k codes

-- this is the text of k and these codes
pub record IsPrinted (text : List ℕ) (k : Contents) (codes : List ℕ) : Type 0 where
  pub sound : Sound k
  pub fit : AllFitLines k
  pub are : AreCodes codes
  pub is : text ≡ text_of k codes

-- the file of what the lines of the text make is these bytes
abbrev pub ComesBack : List ℕ → List ℕ → Type 0
ComesBack bytes text = (file : List ℕ) → IsFileOf (lines text) file → file ≡ bytes

-- no text of a plan is longer
abbrev pub longest_text : ℕ
longest_text = 52976
