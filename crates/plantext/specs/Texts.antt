-- The text form of a plan and the codes of its cores, as it is printed.
use Rattle.std.specs.Prelude.{ℕ, ◌-◌, cond, List, [], ◌∷◌, ◌++◌, length, slice_index, codes, decimal}
use Rattle.std.specs.List.{flat_map, range_with_len}
use Rattle.plan.specs.declared.handlers.Handler.{Handler}
use Rattle.plan.specs.Contents.{Contents, at, known, joins}
use Rattle.planfile.specs.Files.{numbers}

-- the line of a core, with the line feed at its end
abbrev pub core_line : ℕ → ℕ → List ℕ
core_line c code = codes "core " ++ (decimal c ++ (codes " code " ++ (decimal code ++ 10 ∷ [])))

-- the line of a handler
abbrev pub handler_line : Handler → List ℕ
handler_line h =
    codes "handler core " ++ (decimal h.core ++ (codes " period " ++ (decimal h.period ++ (codes " offset " ++ (decimal h.offset
    ++ (codes " shortest " ++ (decimal h.shortest ++ (codes " longest " ++ (decimal h.longest ++ 10 ∷ [])))))))))

-- the line of a join
abbrev pub join_line : ℕ → ℕ → List ℕ
join_line a b = codes "join first " ++ (decimal a ++ (codes " second " ++ (decimal b ++ 10 ∷ [])))

-- the lines of the cores, in the order of their numbers
abbrev pub core_lines : List ℕ → List ℕ
core_lines codes = flat_map (λ c. core_line c (slice_index codes (c - 1))) (range_with_len 1 (length codes))

-- the lines of the handlers, in the order of their numbers
abbrev pub handler_lines : Contents → List ℕ
handler_lines k = flat_map handler_line k.handlers

-- the line of the handler of this number, if there is one
abbrev pub line_if_known : Contents → ℕ → List ℕ
line_if_known k n = cond (known k n) (handler_line (at k (n - 1))) []

-- the line of a before b, if they are joined
abbrev pub line_if_joined : Contents → ℕ → ℕ → List ℕ
line_if_joined k a b = cond (joins k a b) (join_line a b) []

-- the lines of the joins whose first number is a, by the second number
abbrev pub lines_from : Contents → ℕ → List ℕ
lines_from k a = flat_map (line_if_joined k a) (numbers k)

-- the lines of all joins, by the first number and then the second
abbrev pub join_lines : Contents → List ℕ
join_lines k = flat_map (lines_from k) (numbers k)

-- the text of a plan that holds k, with these codes of the cores 1, 2 and on: cores, handlers, joins
abbrev pub text_of : Contents → List ℕ → List ℕ
text_of k codes = core_lines codes ++ (handler_lines k ++ join_lines k)
