-- What is proved of reading text.
use Rattle.std.specs.Prelude.{◌≡◌, ℕ, List}
use Rattle.plantext.specs.declared.listing.Listing.{Listing}
use Rattle.plantext.specs.declared.listing.Unlisted.{Unlisted}
use Rattle.plantext.specs.Taking.{Lists, IsUnlisted}

-- lines make one listing
abbrev pub OneListing : Type 0
OneListing = (ls : List (List ℕ)) (l m : Listing) → Lists ls l → Lists ls m → m ≡ l

-- lines that make a listing are not refused
abbrev pub GoodLinesAreTaken : Type 0
GoodLinesAreTaken =
    (ls : List (List ℕ)) (l : Listing) → Lists ls l → (e : Unlisted) → ¬ IsUnlisted ls e

-- no lines are refused at two of them, or for two reasons
abbrev pub OneRefusal : Type 0
OneRefusal = (ls : List (List ℕ)) (e f : Unlisted) → IsUnlisted ls e → IsUnlisted ls f → f ≡ e
