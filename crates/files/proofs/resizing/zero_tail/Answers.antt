use mathlib.Core.Path.{sym, ap, ◌∙◌}
use Rattle.volume.specs.Volume.{shown, laid, with_store}
use Rattle.store.proofs.TailSteps.{tail-below, tail-inside, tail-cleared, tail-left}
use Rattle.files.proofs.resizing.zero_tail.Goals as goal

pub returns-then-not-is_row : goal.returns-then-not-is_row
returns-then-not-is_row c =
    sym c.requires.0.formed.same ∙ ap (λ s. laid (with_store s (shown c.args.volume.now))) (tail-left c.args.node c.args.end (shown c.args.volume.now).store c.requires.1 c.requires.3.0 c.requires.2 c.is_row.ensures c.if-not-is_row.true)

pub chunk_row-chunk-requires : goal.chunk_row-chunk-requires
chunk_row-chunk-requires c =
    tail-below c.args.node c.args.end (shown c.args.volume.now).store c.requires.1 c.requires.3.0 c.requires.2 c.is_row.ensures c.if-not-is_row.false

pub clear_rest-requires : goal.clear_rest-requires
clear_rest-requires c =
    (c.requires.0, (tail-inside c.args.node c.args.end (shown c.args.volume.now).store c.requires.1 c.requires.3.0 c.requires.2 c.is_row.ensures (c.if-not-is_row.false) c.chunk_row-chunk.ensures).0, (tail-inside c.args.node c.args.end (shown c.args.volume.now).store c.requires.1 c.requires.3.0 c.requires.2 c.is_row.ensures (c.if-not-is_row.false) c.chunk_row-chunk.ensures).1, c.requires.3)

pub returns : goal.returns
returns c =
    c.clear_rest.ensures ∙ ap (λ s. laid (with_store s (shown c.args.volume.now))) (tail-cleared c.args.node c.args.end (shown c.args.volume.now).store c.requires.1 c.requires.3.0 c.requires.2 c.is_row.ensures (c.if-not-is_row.false) c.chunk_row-chunk.ensures)
