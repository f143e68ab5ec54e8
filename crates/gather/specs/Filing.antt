-- An index of rows: `heads` leads from a place to the last row filed there, `next` from a row to
-- the one filed there before it; `homes` says where each row is filed. A link is a row's number and
-- one, and 0 leads nowhere.
use Rattle.std.specs.Prelude.{◌≡◌, ℕ, ◌+◌, ◌-◌, ◌*◌, ◌/◌, ◌^◌, ◌<◌, ◌≤◌, ◌≢◌, List, length, slice_index, slice_index_or}

-- where an element of this code is filed among so many places: the codes from 0 to 65,535, shared
-- out in order
abbrev pub place : ℕ → ℕ → ℕ
place code places = code * places / 65536

-- the index does for the rows: there is a place, each place is a u16, as is each row's number and
-- one, and each row has a home and a link
abbrev pub FitsIndex : {A : Type 0} → List A → List ℕ → List ℕ → List ℕ → Type 0
FitsIndex rows heads homes next =
    (length rows < 2 ^ 16) × (0 < length heads) × (length heads ≤ 2 ^ 16) ×
    (length rows ≤ length homes) × (length rows ≤ length next)

-- each row is filed where its code says
abbrev pub Housed : {A : Type 0} → (A → ℕ) → ℕ → List ℕ → ℕ → List A → Type 0
Housed {A} filed places homes count rows =
    (j : ℕ) (d : A) → j < count →
    slice_index homes j ≡ place (filed (slice_index_or rows j d)) places

-- the head of each row's place leads to it or to a later row of its place. Of a place with no row
-- nothing is said
abbrev pub Headed : List ℕ → List ℕ → ℕ → Type 0
Headed heads homes count =
    (j : ℕ) → j < count →
    (j < slice_index heads (slice_index homes j)) ×
    (slice_index heads (slice_index homes j) ≤ count) ×
    (slice_index homes (slice_index heads (slice_index homes j) - 1) ≡ slice_index homes j)

-- each row leads to an earlier one, of its place, and no row between them is of its place
abbrev pub Linked : List ℕ → List ℕ → ℕ → Type 0
Linked next homes count =
    (k : ℕ) → k < count →
    (slice_index next k ≤ k) ×
    ((j : ℕ) → slice_index next k ≤ j → j < k → slice_index homes j ≢ slice_index homes k) ×
    ((m : ℕ) → slice_index next k ≡ m + 1 → slice_index homes m ≡ slice_index homes k)

-- the link leads to a row that is filed at `home`, or nowhere, and no row from it on is filed there
abbrev pub Ahead : List ℕ → ℕ → ℕ → ℕ → Type 0
Ahead homes count home link =
    (link ≤ count) ×
    ((j : ℕ) → link ≤ j → j < count → slice_index homes j ≢ home) ×
    ((m : ℕ) → link ≡ m + 1 → slice_index homes m ≡ home)
