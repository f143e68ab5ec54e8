-- The file of a plan and the codes of its cores.
use Rattle.std.specs.Prelude.{ℕ, suc, ◌/◌, ◌%◌, ◌==◌, ◌||◌, if◌then◌else◌, cond, List, [], ◌∷◌, ◌++◌}
use Rattle.std.specs.List.{flat_map, range_with_len}
use Rattle.plan.specs.declared.handlers.Handler.{Handler}
use Rattle.plan.specs.Contents.{Contents, count, joins}

-- how many bytes a record of this kind has, its kind byte among them
abbrev pub record_length : ℕ → ℕ
record_length kind = if kind == 1 then 10 else (if kind == 2 || kind == 3 then 3 else 1)

-- a number of two bytes, the high byte first
abbrev pub two_bytes : ℕ → List ℕ
two_bytes n = n / 256 ∷ n % 256 ∷ []

-- the record of a handler: kind 1, period, offset, shortest and longest time, core
abbrev pub handler_record : Handler → List ℕ
handler_record h = 1 ∷ two_bytes h.period ++ two_bytes h.offset ++ two_bytes h.shortest ++ two_bytes h.longest ++ h.core ∷ []

-- the record of a join: kind 2, the two numbers
abbrev pub join_record : ℕ → ℕ → List ℕ
join_record a b = 2 ∷ a ∷ b ∷ []

-- the record of a core: kind 3, its number, its code
abbrev pub core_record : ℕ → ℕ → List ℕ
core_record c code = 3 ∷ c ∷ code ∷ []

-- the records of the handlers, in the order of their numbers
abbrev pub handler_records : Contents → List ℕ
handler_records k = flat_map handler_record k.handlers

-- the numbers of the handlers
abbrev pub numbers : Contents → List ℕ
numbers k = range_with_len 1 (count k)

-- the record of a before b, if they are joined
abbrev pub record_if_joined : Contents → ℕ → ℕ → List ℕ
record_if_joined k a b = cond (joins k a b) (join_record a b) []

-- the records of the joins whose first number is a, by the second number
abbrev pub joins_from : Contents → ℕ → List ℕ
joins_from k a = flat_map (record_if_joined k a) (numbers k)

-- the records of all joins, by the first number and then the second
abbrev pub join_records : Contents → List ℕ
join_records k = flat_map (joins_from k) (numbers k)

-- the records of the cores from c on
abbrev pub core_records : ℕ → List ℕ → List ℕ
core_records c [] = []
core_records c (code ∷ codes) = core_record c code ++ core_records (suc c) codes

-- the file of a plan that holds k, with these codes of the cores 1, 2 and on: handlers, joins, cores, and the end, kind 4
abbrev pub file_of : Contents → List ℕ → List ℕ
file_of k codes = handler_records k ++ join_records k ++ core_records 1 codes ++ 4 ∷ []
