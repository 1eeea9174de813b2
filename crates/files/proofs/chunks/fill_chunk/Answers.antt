use mathlib.Core.Path.{refl, sym, ◌∙◌}
use Rattle.words.proofs.Parts.{lent_at}
use Rattle.files.proofs.LentChunk.{filled}
use Rattle.files.proofs.chunks.fill_chunk.Goals as goal

pub returns : goal.returns
returns c =
    filled c.args.chunk.now c.args.bytes.now c.args.from c.requires (c.fill.ensures.after (λ y e. e)) refl _ (c.copy.ensures ∙ sym (lent_at _ c.args.from _ c.args.bytes.now c.args.bytes.now refl refl)) (c.fill-2.ensures.after (λ y e. e))
