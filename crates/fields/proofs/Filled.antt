-- What an array of records holds.
use Rattle.std.proofs.Common.{◌≡◌, ℕ, ◌<◌, ◌≤◌, cond, ltb, length, get_or, ◌∙◌, arith}
use Rattle.std.proofs.lemmas.List.FromFn.{get_or-map-range_with_len, length-map-range_with_len}
use Rattle.std.proofs.lemmas.Bool.{lt-ltb, cond-true}
use Rattle.fields.specs.Records.{filled}

-- its length is its size
pub filled_long : {T : Type 0} (size count : ℕ) (empty : T) (f : ℕ → T) → length (filled size count empty f) ≡ size
unfolding filled
filled_long size count empty f = length-map-range_with_len (λ k. cond (ltb k count) (f k) empty) 0 size

-- the records stand in its first places
pub filled_at : {T : Type 0} (size count : ℕ) (empty : T) (f : ℕ → T) (k : ℕ) (d : T) → k < count → count ≤ size → get_or (filled size count empty f) k d ≡ f k
unfolding filled
filled_at size count empty f k d h l =
    get_or-map-range_with_len (λ k. cond (ltb k count) (f k) empty) 0 size k k d (omega arith) (omega arith) ∙ cond-true (ltb k count) (f k) empty (lt-ltb k count h)
