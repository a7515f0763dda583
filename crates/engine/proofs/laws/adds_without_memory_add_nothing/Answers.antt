use Rattle.std.proofs.Common.{◌≡◌, ⊎_elim, false, Err, subst, arith}
use Rattle.commit_desk.specs.declared.answers.AddFault.TheVariants as add
use Rattle.engine.specs.Adds.{MovesFirst}
use Rattle.engine.specs.Moves.{SomeMoves}
use Rattle.engine.proofs.Moves.{all_moved, front_refl, moves_go_on, silent_turn}
use Rattle.engine.proofs.laws.adds_without_memory_add_nothing.Goals as goal

pub returns : goal.returns
returns c config limits pass id text before after turns =
    ⊎_elim (λ (same : before ≡ after). (0, omega arith, subst (λ h. SomeMoves config limits pass false id before h 0) same (front_refl pass before)))
    (λ (moved : MovesFirst config limits pass id text before after (Err add.Memory)). (
      moved.moves.moves,
      moved.moves.few,
      moves_go_on config limits pass false id moved.moves.moves before moved.middle after (all_moved config limits pass false id before moved.middle moved.moves)
          (silent_turn pass moved.middle after moved.own),
    ))
    turns
