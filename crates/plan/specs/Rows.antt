-- Handlers in a row: their ranges, the round and the settling time.
use Rattle.std.specs.Prelude.{◌≡◌, ℕ, ◌<◌, ◌≤◌, max, List, fold, slice_index_or}
use Rattle.std.specs.Int.{◌∣◌}
use Rattle.std.specs.List.{Contains as Has}
use Rattle.plan.specs.Multiples.{lcm}
use Rattle.policy.specs.Words.{FitsWord}
use Rattle.plan.specs.declared.handlers.Handler.{Handler}

-- what stands in a row where no handler is
abbrev pub blank : Handler
blank = record { period = 0; offset = 0; shortest = 0; longest = 0; core = 0 }

-- its times are numbers of 16 bits, as those of every handler in memory are
abbrev pub FitsWords : Handler → Type 0
FitsWords h = FitsWord h.period × FitsWord h.offset × FitsWord h.shortest × FitsWord h.longest

-- what every handler of a plan meets
abbrev pub IsInRange : Handler → Type 0
IsInRange h =
    (1 ≤ h.period) × (1 ≤ h.shortest) × (h.shortest ≤ h.longest)
    × (1 ≤ h.core) × (h.core ≤ 8) × FitsWords h

-- the first n are in range
abbrev pub AllInRange : ℕ → List Handler → Type 0
AllInRange n hs = (i : ℕ) → i < n → IsInRange (slice_index_or hs i blank)

-- the rows from the n-th on are blank
abbrev pub BlankFrom : ℕ → List Handler → Type 0
BlankFrom n hs = (i : ℕ) → n ≤ i → slice_index_or hs i blank ≡ blank

-- the least common multiple of m and the periods
abbrev pub round_from : ℕ → List Handler → ℕ
round_from m hs = fold (λ n h. lcm n h.period) m hs

-- the round (the hyperperiod): the least common multiple of the periods, 1 for none
abbrev pub round_of : List Handler → ℕ
round_of hs = round_from 1 hs

-- the most that a round may be
abbrev pub longest_round : ℕ
longest_round = 16777216

-- the greatest of m and the offsets
abbrev pub settling_from : ℕ → List Handler → ℕ
settling_from m hs = fold (λ n h. max n h.offset) m hs

-- the settling time: the greatest offset, 0 for none
abbrev pub settling_of : List Handler → ℕ
settling_of hs = settling_from 0 hs

-- every period divides n
abbrev pub Common : List Handler → ℕ → Type 0
Common hs n = (h : Handler) → Has hs h → h.period ∣ n

-- no number from 1 on that every period divides is below m
abbrev pub Least : List Handler → ℕ → Type 0
Least hs m = (n : ℕ) → 1 ≤ n → Common hs n → m ≤ n

-- m divides every number that every period divides
abbrev pub Divides : List Handler → ℕ → Type 0
Divides hs m = (n : ℕ) → Common hs n → m ∣ n

-- m is the least number from 1 on that every period divides, and divides every other
pub record LeastRound (hs : List Handler) (m : ℕ) : Type 0 where
  pub some : 1 ≤ m
  pub common : Common hs m
  pub least : Least hs m
  pub divides : Divides hs m

-- every handler in the row has a period
abbrev pub Recurring : List Handler → Type 0
Recurring hs = (h : Handler) → Has hs h → 1 ≤ h.period

-- the round of any such row is the least common multiple of its periods, however long the row
-- and however large that is
abbrev pub RoundIsLeastCommonMultiple : Type 0
RoundIsLeastCommonMultiple = (hs : List Handler) → Recurring hs → LeastRound hs (round_of hs)

-- no offset is above n
abbrev pub Bounded : List Handler → ℕ → Type 0
Bounded hs n = (h : Handler) → Has hs h → h.offset ≤ n

-- no number below m bounds the offsets
abbrev pub Tight : List Handler → ℕ → Type 0
Tight hs m = (n : ℕ) → Bounded hs n → m ≤ n

-- m is the greatest offset, and 0 where there is no handler: it bounds the offsets, and nothing below it does
pub record GreatestOffset (hs : List Handler) (m : ℕ) : Type 0 where
  pub above : Bounded hs m
  pub tight : Tight hs m
