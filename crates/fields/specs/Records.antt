-- A list of records in an array of fixed size.
use Rattle.std.specs.Prelude.{ℕ, cond, List, map, nat_lt}
use Rattle.std.specs.List.{range_with_len}

-- an array of `size` places: the first `count` records, and the empty record behind them
unfoldable pub filled : {T : Type 0} → ℕ → ℕ → T → (ℕ → T) → List T
filled size count empty record' = map (λ k. cond (nat_lt k count) (record' k) empty) (range_with_len 0 size)
