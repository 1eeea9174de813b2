-- Believed: what a call makes of a volume: its answer, and the volume behind it. And one row of the node table changed.
-- Assumes nothing.
use Rattle.std.specs.Prelude.{ℕ, List, map, eqb, Ok, Err}
use Rattle.words.specs.Rules.{pick}
use Rattle.types.specs.Answers.{Answer}
use Rattle.types.specs.declared.Error.{Error}
use Rattle.types.specs.declared.NodeRecord.{NodeRecord}
use Rattle.volume.specs.Volume.{Names, Volume, with_nodes}

pub record Step : Type 0 where
  pub answer : Answer
  pub after : Volume

-- a refusal leaves the volume as it was
abbrev pub stays : Error → Volume → Step
stays e v = record { answer = Err e; after = v }

abbrev pub becomes : ℕ → Volume → Step
becomes n v = record { answer = Ok n; after = v }

-- the row of node n changed
unfoldable pub changed : ℕ → (NodeRecord → NodeRecord) → List NodeRecord → List NodeRecord
changed n f rs = map (λ r. pick (eqb r.node n) (f r) r) rs

abbrev pub with_node : ℕ → (NodeRecord → NodeRecord) → Names → Names
with_node n f a = with_nodes (changed n f a.nodes) a

-- ---- the same of nodes and entries alone

pub record NamesStep : Type 0 where
  pub answer : Answer
  pub after : Names

-- a refusal
abbrev pub remain : Error → Names → NamesStep
remain e a = record { answer = Err e; after = a }

abbrev pub turn : ℕ → Names → NamesStep
turn n a = record { answer = Ok n; after = a }

-- lifted to a volume: its chunks stay
abbrev pub name_step : (Names → NamesStep) → Volume → Step
name_step call v = record { answer = (call v.names).answer; after = record { names = (call v.names).after; store = v.store } }
