use borrow.Author.Rules.{rules}
use native.Mathlib.Omega.{arith}
use lib.ListN.{length}
use mathlib.Core.Path.{◌≡◌, ap, ◌∙◌}
use Rattle.std.specs.Prelude.{Err}
use Rattle.paths.specs.Pieces.{parts_after}
use Rattle.paths.proofs.Walk.{leads, cut-led, walk_start, walk-on, piece-length, walk_turn, walk-barred, walk-open, walk-shut}
use Rattle.paths.proofs.get_path_parts.Goals as goal

pub returns-then-starts_with : goal.returns-then-starts_with
returns-then-starts_with c =
    cut-led c.args.path.now _ _ c.if-path-gt-MOST_PATH.false (c.starts_with.ensures.value ∙ leads c.args.path.now) c.if-starts_with.true

pub loop-end-init : goal.loop-end-init
loop-end-init c =
    record {
      within = omega arith;
      walking = walk_start c.args.path.now _ _ c.if-path-gt-MOST_PATH.false (c.starts_with.ensures.value ∙ leads c.args.path.now) c.if-starts_with.false;
    }

pub loop-end-preserved-then-byte-ne47 : goal.loop-end-preserved-then-byte-ne47
loop-end-preserved-then-byte-ne47 c =
    record {
      within = omega arith;
      walking = walk-on c.loop-end.invariant.walking c.loop-end-test.true c.if-byte-ne47.true;
    }

pub slice_bounds-place_piece-count : goal.slice_bounds-place_piece-count
slice_bounds-place_piece-count c =
    c.loop-end.invariant.walking.begun

pub place_piece-requires : goal.place_piece-requires
place_piece-requires c =
    (c.loop-end.invariant.walking.half, omega (arith, c.loop-end.invariant.walking.begun, c.loop-end.invariant.walking.short, piece-length c.loop-end.invariant.walking c.loop-end.invariant.within))

pub returns-in_err-parts : goal.returns-in_err-parts
returns-in_err-parts c =
    let same : c.from_residual.result ≡ Err c.in_err-parts.field-0.0 = search rules in
    rw same (walk-barred c.loop-end.invariant.walking c.loop-end.invariant.within (λ h. c.if-byte-ne47.false) c.place_piece.ensures.0 c.in_err-parts.was)

pub loop-end-preserved : goal.loop-end-preserved
loop-end-preserved c =
    record {
      within = omega arith;
      walking = walk_turn c.loop-end.invariant.walking c.loop-end.invariant.within (λ h. c.if-byte-ne47.false) c.place_piece.ensures.0 c.in_ok-parts.was (omega (arith, c.place_piece.ensures.1, ap parts_after c.in_ok-parts.was, c.loop-end.invariant.walking.begun, piece-length c.loop-end.invariant.walking c.loop-end.invariant.within));
    }

pub slice_bounds-place_piece-count-2 : goal.slice_bounds-place_piece-count-2
slice_bounds-place_piece-count-2 c =
    omega (arith, c.loop-end.invariant.walking.begun, c.loop-end.invariant.within)

pub place_piece-requires-2 : goal.place_piece-requires-2
place_piece-requires-2 c =
    let last : length c.args.path.now ≡ c.loop-end.end = omega (arith, c.loop-end.invariant.within) in
    let l = rw (← last) at c.loop-end.invariant.walking in
    (l.half, omega (arith, l.begun, l.short, piece-length l (omega arith)))

pub returns-in_err-parts-2 : goal.returns-in_err-parts-2
returns-in_err-parts-2 c =
    let last : length c.args.path.now ≡ c.loop-end.end = omega (arith, c.loop-end.invariant.within) in
    let l = rw (← last) at c.loop-end.invariant.walking in
    let same : c.from_residual-in_err-parts-2.result ≡ Err c.in_err-parts-2.field-0.0 = search rules in
    rw same (walk-barred l (omega arith) (λ h. absurd (omega arith)) c.place_piece-2.ensures.0 c.in_err-parts-2.was)

pub returns-then-parts : goal.returns-then-parts
returns-then-parts c =
    let last : length c.args.path.now ≡ c.loop-end.end = omega (arith, c.loop-end.invariant.within) in
    let l = rw (← last) at c.loop-end.invariant.walking in
    walk-open l (omega arith) (λ h. absurd (omega arith)) c.place_piece-2.ensures.0 c.in_ok-parts-2.was (omega arith) c.if-parts.true

pub returns-else-parts : goal.returns-else-parts
returns-else-parts c =
    let last : length c.args.path.now ≡ c.loop-end.end = omega (arith, c.loop-end.invariant.within) in
    let l = rw (← last) at c.loop-end.invariant.walking in
    walk-shut l (omega arith) (λ h. absurd (omega arith)) c.place_piece-2.ensures.0 c.in_ok-parts-2.was (omega arith) c.if-parts.false
