use Rattle.std.proofs.Common.{◌*◌, ◌≤◌, ℕ, List, Ok, Err, length, sym, subst}
use Rattle.commit_desk.specs.declared.answers.AddFault.{AddFault}
use Rattle.commit_desk.proofs.DocumentEvents.{bits_of_text}
use Rattle.commit_desk.specs.Passes.{HasWritten}
use Rattle.engine.specs.Adds.{CommitTurns, OwnTurns}
use Rattle.engine.specs.Moves.{AreBitsAt}
use Rattle.engine.proofs.AddSteps.{dropped_turns}
use Rattle.engine.proofs.Claims.{commit_turns}
use Rattle.funnel_model.specs.Tunings.{treat}
use Rattle.engine.proofs.engine_pool.EnginePool.add_prepared.Goals as goal

pub write-requires-clause-room : goal.write-requires-clause-room
write-requires-clause-room g c = subst (λ (set : List (List ℕ)). 26 * length set ≤ c.args.bits.room) (sym c.words.ensures.words) c.requires.prepared.room

pub commit-requires : goal.commit-requires
commit-requires g c = record {
  at = c.claim.ensures.at;
  written =
      subst (λ (set : List (List ℕ)). HasWritten c.args.self.now c.in_ok-claimed.claimed.0 set c.write.new.bits.bits c.write.new.pass) c.words.ensures.words c.write.ensures.written;
}

pub returns-in-Ok-clause-turns : goal.returns-in-Ok-clause-turns
returns-in-Ok-clause-turns g c =
    let pass = c.args.pass.now in
    let doc = c.args.doc in
    let pool = c.args.self.now in
    let claim = c.in_ok-claimed.claimed.0 in
    let bits = c.write.new.bits.bits in
    let wrote = c.write.new.pass in
    let written : HasWritten pool claim doc.words bits wrote = subst (λ (set : List (List ℕ)). HasWritten pool claim set bits wrote) c.words.ensures.words c.write.ensures.written in
    let of_text : AreBitsAt pool.config pool.limits wrote.front doc.text claim bits =
    bits_of_text pool.limits.slice_words (treat pool.config claim.slice wrote.front) doc.words doc.text claim.slice claim.column bits c.requires.prepared.of_text written.document in
    commit_turns pool.config pool.limits pass.number doc.id doc.text pass.front c.commit.new.pass.front claim bits (Ok c.in-Ok.place) c.claim.new.pass wrote c.in_ok-claimed.ensures.turns c.claim.ensures.number
    c.write.ensures.seat of_text c.in-Ok.ensures.turn

-- an add whose document was dropped
pub returns-clause-turns : goal.returns-clause-turns
returns-clause-turns g c =
    let pass = c.args.pass.now in
    let doc = c.args.doc in
    let pool = c.args.self.now in
    let claim = c.in_ok-claimed.claimed.0 in
    let bits = c.write.new.bits.bits in
    let wrote = c.write.new.pass in
    let after = c.commit.new.pass.front in
    let written : HasWritten pool claim doc.words bits wrote = subst (λ (set : List (List ℕ)). HasWritten pool claim set bits wrote) c.words.ensures.words c.write.ensures.written in
    let of_text : AreBitsAt pool.config pool.limits wrote.front doc.text claim bits =
    bits_of_text pool.limits.slice_words (treat pool.config claim.slice wrote.front) doc.words doc.text claim.slice claim.column bits c.requires.prepared.of_text written.document in
    let turns : CommitTurns pool.config pool.limits pass.number doc.id doc.text pass.front after (Err c.in-Err.fault) =
    commit_turns pool.config pool.limits pass.number doc.id doc.text pass.front after claim bits (Err c.in-Err.fault) c.claim.new.pass wrote c.in_ok-claimed.ensures.turns c.claim.ensures.number c.write.ensures.seat
    of_text c.in-Err.ensures.turn in
    subst (λ (f : AddFault). OwnTurns pool.config pool.limits pass.number doc.id doc.text pass.front after (Err f)) (sym c.dropped.ensures)
    (dropped_turns pool.limits pass.number doc.id doc.text pass.front after pool.config c.in-Err.fault turns)
