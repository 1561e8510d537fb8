-- What a draft holds and says, and what a step leaves of it. A draft that has posts is seen with the list of them as its state.
use Rattle.std.specs.Prelude.{◌≡◌, List, ◌++◌, length, drop}
use Rattle.messages.specs.Said.{Said, written}
use Rattle.messages.specs.declared.call.Call.{Call}
use Rattle.messages.specs.declared.post.Post.{Post}
use Rattle.drafts.specs.declared.draft.Draft.{Draft}
use Rattle.drafts.specs.declared.draft.Finished.{Finished}

-- what a draft says with a call
abbrev pub said_with : Draft (List Post) → Call → Said
said_with draft call = record { person = draft.person; posts = draft.state; call = call }

-- a draft goes on for the same person, over the same memory, which holds what it held
pub record GoesOn {S T : Type 0} (draft : Draft S) (next : Draft T) : Type 0 where
  pub person : next.person ≡ draft.person
  pub memory : next.memory ≡ draft.memory

-- the posts of a draft are these
pub record HasPosts (next : Draft (List Post)) (posts : List Post) : Type 0 where
  pub held : next.state ≡ posts

-- the same memory begins with the message's bytes, and behind them holds what it held
pub record Finishes (draft : Draft (List Post)) (call : Call) (next : Draft Finished) : Type 0 where
  pub person : next.person ≡ draft.person
  pub size : next.state.length ≡ length (written (said_with draft call))
  pub bytes : next.memory.now ≡ written (said_with draft call) ++ drop next.state.length draft.memory.now
  pub memory : next.memory.ghost_name ≡ draft.memory.ghost_name
