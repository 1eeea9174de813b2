use mathlib.Core.Path.{◌≡◌, sym, ap, ◌∙◌}
use mathlib.Core.List.{List, [], ◌∷◌, ◌++◌, append-nil}
use Prim.Native.Nat.{ℕ, ◌+◌, ◌*◌, ◌≤◌, ◌<◌}
use native.Mathlib.Numerals.{add-one}
use native.Mathlib.Omega.{arith}
use lib.ListN.{length, take, get_or}
use lib.Seq.{take_all, take-suc}
use Rattle.words.specs.Bytes.{over, spell}
use Rattle.words.specs.Tables.{lay_all, lay_words}
use Rattle.words.proofs.Parts.{over-nil, two}
use Rattle.words.proofs.Numbers.{length-spell}
use Rattle.words.proofs.Tables.{lay_all-append, length_front}
use Rattle.words.proofs.put_words.Goals as goal

-- one word more
words-turn : (l : List ℕ) (at : ℕ) (ws : List ℕ) (i : ℕ) {v m : List ℕ} → v ≡ over l at (lay_words (take i ws)) → m ≡ over v (at + 8 * i) (spell 8 (get_or ws i 0))
    → i < length ws → at + 8 * length ws ≤ length l → m ≡ over l at (lay_words (take (i + 1) ws))
unfolding lay_all
words-turn l at ws i e p h k =
    let n : length (lay_words (take i ws)) ≡ 8 * i = length_front (spell 8) 8 (length-spell 8) ws i (omega arith) in
    let s : length (spell 8 (get_or ws i 0)) ≡ 8 = length-spell 8 (get_or ws i 0) in
    let t : lay_words (take (i + 1) ws) ≡ lay_words (take i ws) ++ spell 8 (get_or ws i 0) =
    rw (add-one, take-suc ws i 0 h, lay_all-append (spell 8) (take i ws) (get_or ws i 0 ∷ []), append-nil) in
    rw t (two l at (lay_words (take i ws)) (spell 8 (get_or ws i 0)) (at + 8 * i) e p (omega arith) (omega arith))

pub loop-i-init : goal.loop-i-init
unfolding lay_all
loop-i-init c =
    sym (over-nil c.args.v.now c.args.at)

pub loop-i-preserved : goal.loop-i-preserved
loop-i-preserved c =
    words-turn c.args.v.now c.args.at c.args.ws.now c.loop-i.i c.loop-i.invariant c.put.ensures (omega arith) c.requires

pub returns : goal.returns
returns c =
    c.loop-i.invariant ∙ ap (λ r. over c.args.v.now c.args.at (lay_words r)) (take_all c.loop-i.i c.args.ws.now (omega arith))
