-- A call on the names of a volume: its answer and the bytes that it leaves are those that a step says.
-- Assumes nothing.
use Rattle.std.specs.Prelude.{Err}
use mathlib.Core.Path.{◌≡◌, sym, ap, ◌∙◌}
use mathlib.Core.List.{List}
use Prim.Native.Nat.{ℕ}
use Rattle.types.specs.Answers.{Answer}
use Rattle.types.specs.declared.Error.{Error}
use Rattle.volume.specs.Volume.{Names, Volume, shown, laid}
use Rattle.volume.specs.Steps.{NamesStep, remain, name_step}
use Rattle.volume.specs.Formed.{Formed}

-- as the calls promise it
abbrev pub NameMeets : Answer → List ℕ → (Names → NamesStep) → Volume → Type 0
NameMeets r x call v = (r ≡ (name_step call v).answer) × (x ≡ laid (name_step call v).after)

pub name_meets : {x : List ℕ} (v : Volume) (call : Names → NamesStep) (s : NamesStep) → x ≡ laid (record { names = s.after; store = v.store }) → s ≡ call v.names → NameMeets s.answer x call v
name_meets v call s h e = (ap (λ o. o.answer) e, h ∙ ap (λ o. laid (record { names = o.after; store = v.store })) e)

-- a refusal leaves the bytes as they were
pub name-refused : (l : List ℕ) → Formed l → (call : Names → NamesStep) (e : Error) → remain e (shown l).names ≡ call (shown l).names → NameMeets (Err e) l call (shown l)
name-refused l f call e h = name_meets (shown l) call (remain e (shown l).names) (sym f.same) h
