-- Where the lists of a plan stand: each behind the one before, as the counts say.
use Rattle.std.specs.Prelude.{ℕ, ◌+◌, ◌*◌, List}
use Rattle.fields.specs.Bytes.{byte_at, two_at}
use Rattle.plans.specs.declared.layout.Span.{Span}
use Rattle.plans.specs.declared.layout.Layout.{Layout}

-- a list whose count of one byte stands at an offset
abbrev pub list_at : List ℕ → ℕ → Span
list_at bytes at = record { at = at; first = at + 1; count = byte_at bytes at }

-- the offset behind a list of records of so many bytes
abbrev pub behind : Span → ℕ → ℕ
behind list size = list.first + size * list.count

-- the branches, right behind the header
unfoldable pub branches_in : List ℕ → Span
branches_in bytes = list_at bytes 3

unfoldable pub roles_in : List ℕ → Span
roles_in bytes = list_at bytes (behind (branches_in bytes) 2)

-- the offset of the principal role
unfoldable pub principal_in : List ℕ → ℕ
principal_in bytes = behind (roles_in bytes) 4

unfoldable pub grants_in : List ℕ → Span
grants_in bytes = list_at bytes (principal_in bytes + 1)

unfoldable pub takes_in : List ℕ → Span
takes_in bytes = list_at bytes (behind (grants_in bytes) 6)

unfoldable pub sets_in : List ℕ → Span
sets_in bytes = list_at bytes (behind (takes_in bytes) 6)

-- the pieces, whose count has two bytes
unfoldable pub pieces_in : List ℕ → Span
pieces_in bytes = let at : ℕ = behind (sets_in bytes) 3 in record { at = at; first = at + 2; count = two_at bytes at }

unfoldable pub layout_of : List ℕ → Layout
layout_of bytes =
    record {
      branches = branches_in bytes;
      roles = roles_in bytes;
      principal = principal_in bytes;
      grants = grants_in bytes;
      takes = takes_in bytes;
      sets = sets_in bytes;
      pieces = pieces_in bytes;
    }
