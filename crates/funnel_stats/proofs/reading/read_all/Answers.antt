-- Want of memory comes after the bytes were taken.
use Rattle.std.proofs.lemmas.Grind.{common_steps}
use Rattle.std.proofs.Common.{rules, ◌∙◌, ap, refl, ℕ, ◌≤◌, ◌++◌, length, take, arith, length-append, length-take}
use Rattle.std.proofs.lemmas.List.{take-append-le}
use Rattle.std.proofs.lemmas.Result.{err_from_is_err_and}
use Rattle.funnel_io.proofs.Taking.{Takes-trans}
use Rattle.funnel_io.specs.declared.source.Got.TheVariants as got
use Rattle.funnel_stats.proofs.Taking.{read_last, read_more}
use Rattle.funnel_stats.proofs.reading.read_all.Goals as goal

pub returns-in_err-extend_from_slice-in-Bytes-clause-taken : goal.returns-in_err-extend_from_slice-in-Bytes-clause-taken
returns-in_err-extend_from_slice-in-Bytes-clause-taken g c =
    let p = err_from_is_err_and c.from_residual.result c.from_residual.ensures.1 in
    let before = c.loop-room.invariant.taken in
    let piece = take c.in-Bytes.n c.read.new.room in
    let few : length (c.loop-room.bytes.items ++ piece) ≤ 16777217 = omega (arith, length-append {A = ℕ}, length-take {A = ℕ}) in
    rw (p.1, p.2) (record {
      bytes = c.loop-room.bytes.items ++ piece;
      takes = Takes-trans _ (g.S.Source.incoming c.loop-room.source) _ c.loop-room.bytes.items piece before.takes c.in-Bytes.ensures.takes;
      few = few;
      answers = tt;
    })

pub loop-room-preserved : goal.loop-room-preserved
loop-room-preserved g c =
    let few : length c.loop-room.bytes.items ≤ 16777216 = search rules in
    record {
      taken = grind (arith, common_steps);
      read = read_more _ c.loop-room.bytes.items _ _ _ _ _ _ c.in-Bytes.n c.loop-room.invariant.read c.in-Bytes.ensures.gives few (search rules)
          (c.in_ok-extend_from_slice-in-Bytes.ensures.items ∙ ap (λ bs. c.loop-room.bytes.items ++ bs) (take-append-le c.in-Bytes.n c.read.new.room _ c.in-Bytes.ensures.count.1));
    }

pub returns-in_err-extend_from_slice-in-Bytes-clause-reads : goal.returns-in_err-extend_from_slice-in-Bytes-clause-reads
returns-in_err-extend_from_slice-in-Bytes-clause-reads g c =
    let p = err_from_is_err_and c.from_residual.result c.from_residual.ensures.1 in
    let few : length c.loop-room.bytes.items ≤ 16777216 = search rules in
    rw (p.1, p.2) (read_last _ c.loop-room.bytes.items _ _ _ _ _ (got.Bytes c.in-Bytes.n) _ c.loop-room.invariant.read c.in-Bytes.ensures.gives few (search rules) refl)

pub returns-in-End-clause-reads : goal.returns-in-End-clause-reads
returns-in-End-clause-reads g c =
    let few : length c.loop-room.bytes.items ≤ 16777216 = search rules in
    read_last _ c.loop-room.bytes.items _ _ _ _ _ got.End _ c.loop-room.invariant.read c.in-End.ensures.gives few (search rules) refl

pub returns-in-Failed-clause-reads : goal.returns-in-Failed-clause-reads
returns-in-Failed-clause-reads g c =
    let few : length c.loop-room.bytes.items ≤ 16777216 = search rules in
    read_last _ c.loop-room.bytes.items _ _ _ _ _ got.Failed _ c.loop-room.invariant.read c.in-Failed.ensures.gives few (search rules) refl
