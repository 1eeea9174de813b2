use borrow.Author.Rules.{rules}
use mathlib.Core.Path.{ap}
use mathlib.Core.Bool.{true}
use Rattle.words.proofs.Rules.{told, stop, go_on}
use Rattle.volume.specs.RowTests.{node_formed, entry_formed}
use Rattle.soundness.specs.FrameRules.{areas_formed}
use Rattle.soundness.proofs.FrameRules.{rows_at}
use Rattle.soundness.proofs.frame.is_formed.Goals as goal

pub returns-then-not-is_marked : goal.returns-then-not-is_marked
unfolding areas_formed
returns-then-not-is_marked c =
    stop _ _ (told c.is_marked.ensures c.if-not-is_marked.true)

pub returns-then-not-rows_formed : goal.returns-then-not-rows_formed
unfolding areas_formed
returns-then-not-rows_formed c =
    let nodes = rows_at (node_formed c.args.volume.now) 40 c.args.volume.now (ap (λ z. z.nodes) c.requires.1) c.get-nodes.ensures.value c.get-node_room.ensures.value (c.rows_formed.ensures (node_formed c.args.volume.now) (λ i b h k. search rules)) in
    go_on _ _ (told c.is_marked.ensures c.if-not-is_marked.false) (stop _ _ (told nodes c.if-not-rows_formed.true))

pub returns-then-not-rows_formed-2 : goal.returns-then-not-rows_formed-2
unfolding areas_formed
returns-then-not-rows_formed-2 c =
    let nodes = rows_at (node_formed c.args.volume.now) 40 c.args.volume.now (ap (λ z. z.nodes) c.requires.1) c.get-nodes.ensures.value c.get-node_room.ensures.value (c.rows_formed.ensures (node_formed c.args.volume.now) (λ i b h k. search rules)) in
    let entries = rows_at (entry_formed c.args.volume.now) 280 c.args.volume.now (ap (λ z. z.entries) c.requires.1) c.get-entries.ensures.value c.get-entry_room.ensures.value (c.rows_formed-2.ensures (entry_formed c.args.volume.now) (λ i b h k. search rules)) in
    go_on _ _ (told c.is_marked.ensures c.if-not-is_marked.false) (go_on _ _ (told nodes c.if-not-rows_formed.false) (stop _ _ (told entries c.if-not-rows_formed-2.true)))

pub returns : goal.returns
unfolding areas_formed
returns c =
    let nodes = rows_at (node_formed c.args.volume.now) 40 c.args.volume.now (ap (λ z. z.nodes) c.requires.1) c.get-nodes.ensures.value c.get-node_room.ensures.value (c.rows_formed.ensures (node_formed c.args.volume.now) (λ i b h k. search rules)) in
    let entries = rows_at (entry_formed c.args.volume.now) 280 c.args.volume.now (ap (λ z. z.entries) c.requires.1) c.get-entries.ensures.value c.get-entry_room.ensures.value (c.rows_formed-2.ensures (entry_formed c.args.volume.now) (λ i b h k. search rules)) in
    let chunks = rows_at (λ _. true) 24 c.args.volume.now (ap (λ z. z.chunks) c.requires.1) c.get-chunks.ensures.value c.get-chunk_room.ensures.value (c.rows_formed-3.ensures (λ _. true) (λ i b h k. search rules)) in
    go_on _ _ (told c.is_marked.ensures c.if-not-is_marked.false) (go_on _ _ (told nodes c.if-not-rows_formed.false) (go_on _ _ (told entries c.if-not-rows_formed-2.false) chunks))
