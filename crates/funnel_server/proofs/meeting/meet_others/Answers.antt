use Rattle.std.proofs.Common.{◌≡◌, ◌-◌, ◌+◌, ◌<◌, length, sym, ap, ◌∙◌, subst, arith, List, slice_index_or, slice_set}
use Rattle.std.proofs.lemmas.List.{get_or_default}
use Rattle.funnel_server.specs.Parts.{LastHasMet, LoaderState, Meets}
use Rattle.funnel_server.proofs.Meetings.{last_met_one, still_there}
use Rattle.funnel_server.proofs.meeting.meet_others.Goals as goal

pub loop-place-preserved : goal.loop-place-preserved
loop-place-preserved g c =
    let before = c.args.loaders.now in
    let now = c.loop-place.loaders in
    let last = length before - 1 in
    let n = c.loop-place.place in
    let other = c.index-loaders-place.result in
    let met = c.index-loaders-last.result in
    let less : n < last = c.loop-place-test.true in
    let inside : last < length now = omega (arith, c.requires.some, c.loop-place.invariant.count) in
    let there : n < length now = omega (arith, less, inside) in
    let same = still_there now n c.note-note.new.self other c.note-note.ensures.same in
    let met_is : (d : LoaderState) → slice_index_or (slice_set now n c.note-note.new.self) last met ≡ slice_index_or now last d =
    λ d. ap (λ (loaders : List LoaderState). slice_index_or loaders last met) same ∙ get_or_default now last met d inside in
    subst (λ (loaders : List LoaderState). LastHasMet last (n + 1) before (slice_set loaders last c.meet.new.self)) (sym same)
    (last_met_one last n before now c.note-note.result c.meet.new.self c.loop-place.invariant less (omega (arith, c.requires.some))
    (λ d. c.note-note.ensures.front ∙ ap (λ (s : LoaderState). s.pass.front) (get_or_default now n other d there))
    (λ d. subst (λ (s : LoaderState). Meets c.note-note.result s c.meet.new.self) (met_is d) c.meet.ensures))
