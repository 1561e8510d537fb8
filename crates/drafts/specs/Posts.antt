-- A post that is added to a draft.
use Rattle.std.specs.Prelude.{◌+◌, ◌*◌, List, [], ◌∷◌, length, Result, nat_lt}
use Rattle.refusals.specs.Checks.{must, in_order}
use Rattle.fields.specs.declared.fault.FieldFault.TheVariants.{Value}
use Rattle.messages.specs.Apart.{new_post}
use Rattle.messages.specs.declared.fault.MessageFault.{MessageFault}
use Rattle.messages.specs.declared.fault.MessageFault.TheVariants.{Field}
use Rattle.messages.specs.declared.post.Post.{Post}

-- there is a place for one more post; its role and its branch are below their limits; it repeats none before it
abbrev pub add_steps : List Post → Post → List (Result (Unit {0}) MessageFault)
add_steps before post =
    must (nat_lt (length before) 4) (Field (Value 5))
    ∷ must (nat_lt post.role 16) (Field (Value (6 + 2 * length before)))
    ∷ must (nat_lt post.branch 64) (Field (Value (7 + 2 * length before)))
    ∷ new_post before post
    ∷ []

-- the first thing that keeps a post from being added behind others
abbrev pub add_result : List Post → Post → Result (Unit {0}) MessageFault
add_result before post = in_order (add_steps before post)
