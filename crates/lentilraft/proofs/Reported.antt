-- The report tells the chunk size and its exponent, whichever size it is; and of a new volume with chunks of 16,384 bytes it is the text
-- that is written out byte for byte.
-- Assumes nothing.
use mathlib.Core.Path.{◌≡◌, refl, sym, ap, ◌∙◌}
use mathlib.Core.List.{List, [], ◌∷◌}
use Prim.Native.Nat.{ℕ, ◌-◌, ◌^◌, ◌≤◌}
use native.Mathlib.Omega.{arith}
use lib.Count.{count_trailing_zeros}
use lib.ListN.{length}
use Rattle.words.specs.Bytes.{over}
use Rattle.words.specs.Rules.{pick}
use Rattle.words.specs.Tables.{joined}
use Rattle.types.specs.Outcomes.{done}
use Rattle.allocator.proofs.Sizes.{Exponent, exponent-zeros, accepted-exponent, exponent-accepted}
use Rattle.volume.specs.Volume.{Volume, shown, form, at_bytes}
use Rattle.volume.specs.Framed.{Placed}
use Rattle.volume.specs.Sound.{Sound}
use Rattle.volume.specs.Fresh.{fresh, fresh_laid}
use Rattle.volume.proofs.Laid.{shown-laid}
use Rattle.volume.proofs.FreshGood.{fits_fresh}
use Rattle.volume.proofs.SoundWords.{size-accepted}
use Rattle.soundness.proofs.Checked.{true-sound}
use Rattle.lentilraft.specs.Report.{digits, width, decimal, line, format_key, chunk_size_key, chunk_shift_key, size_lines, row_lines, next_lines, text, new_text, least_output, report}
use Rattle.lentilraft.proofs.Door.{report-full}

-- ---- chunk_shift is the exponent

-- the text of a volume whose chunks have 2 ^ k bytes
abbrev pub power_text : ℕ → Volume → List ℕ
power_text k v =
    joined (joined (line format_key form ∷ line chunk_size_key (2 ^ k) ∷ line chunk_shift_key k ∷ [])
    ∷ row_lines (length v.names.nodes) (length v.names.entries) (length v.store.chunks)
    ∷ next_lines v.store.allocator.free_count v.store.allocator.next_ptr v.names.next_node ∷ [])

pub power-text : (k : ℕ) (v : Volume) → Exponent v.store.allocator.chunk_size k → text v ≡ power_text k v
unfolding text size_lines
power-text k v x = rw (exponent-zeros x, x.power) refl

-- of every sound memory
pub power-reported : (l out : List ℕ) → Sound l → least_output ≤ length out
    → (k : ℕ) × Exponent (shown l).store.allocator.chunk_size k × (report l out ≡ done (length (power_text k (shown l))) (over out 0 (power_text k (shown l))))
power-reported l out s h =
    let x = accepted-exponent (shown l).store.allocator.chunk_size (size-accepted l s.framed) in
    let k = count_trailing_zeros 64 (shown l).store.allocator.chunk_size in
    let t : power_text k (shown l) ≡ text (shown l) = sym (power-text k (shown l) x) in
    (k, x, sym (report-full l out (true-sound l s) h (ap length t) (ap (λ (y : List ℕ). over out 0 y) t)))

-- ---- a new volume with chunks of 16,384 bytes

-- whatever its rooms and its chunk area
pub new-text : (n e c area : ℕ) → text (fresh n e c 16384 area) ≡ new_text
unfolding text size_lines row_lines next_lines joined line decimal digits width pick count_trailing_zeros fresh new_text
new-text n e c area = refl

-- and read off its bytes
pub new-reported : (n e c size : ℕ) → Placed n e c size → text (shown (fresh_laid n e c 16384 size)) ≡ new_text
unfolding fresh_laid
new-reported n e c size p =
    ap text (shown-laid (fresh n e c 16384 (size - at_bytes n e c)) (fits_fresh n e c 16384 size p (exponent-accepted 14 (omega arith) (omega arith)))) ∙ new-text n e c (size - at_bytes n e c)
