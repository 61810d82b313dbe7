-- Sources and sinks in memory, as contracts see them.
use Rattle.std.specs.Prelude.{ℕ, ◌≤◌, List, [], ◌∷◌, Option, Some, None}

-- what is left of the input, at which calls the source fails, and its counts
pub record SourceState : Type 0 where
  pub left : List ℕ
  pub failing : List ℕ
  pub calls : ℕ
  pub faults : ℕ
  pub given : ℕ

-- what was taken, what the capacity still holds, how many bytes the last flush passed on, at which calls the sink fails, and its counts
pub record SinkState : Type 0 where
  pub taken : List ℕ
  pub room : ℕ
  pub flushed : ℕ
  pub failing : List ℕ
  pub calls : ℕ
  pub faults : ℕ

-- a sink that is to fail at no call is steady, and has this room
abbrev pub room_unless_failing : List ℕ → ℕ → Option ℕ
room_unless_failing [] room = Some room
room_unless_failing (call ∷ failing) room = None

-- the room of a sink that is steady: one of which no call is to fail
abbrev pub steady_room : SinkState → Option ℕ
steady_room s = room_unless_failing s.failing s.room

-- the bytes that were taken lie within the capacity that was asked for, which is reserved
pub record IsReserved (len capacity reserved : ℕ) : Type 0 where
  pub within : len ≤ capacity
  pub kept : capacity ≤ reserved
