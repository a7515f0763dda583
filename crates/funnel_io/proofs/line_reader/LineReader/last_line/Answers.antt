use Rattle.std.proofs.Common.{◌≡◌, ◌<◌, ◌⊎◌, true, List, ℕ, length, ap, ◌∙◌, refl, inl, inr, arith}
use Rattle.std.proofs.lemmas.List.{nil_from_length}
use Rattle.funnel_io.specs.Lines.{HasNoNewline}
use Rattle.funnel_io.specs.LineReading.{ReaderState}
use Rattle.funnel_io.proofs.LineLaws.{line_at_end, finished}
use Rattle.funnel_io.proofs.line_reader.LineReader.last_line.Goals as goal
use Rattle.funnel_io.proofs.line_reader.LineReader.last_line.Goals.{else-not-self-via-then-not-self+else-len-eq0, else-not-self-via-else-not-self}

pub returns-then-len-eq0-clause-line : goal.returns-then-len-eq0-clause-line
returns-then-len-eq0-clause-line c =
    finished c.args.self.now
    (rw (← c.self.view_is) (nil_from_length c.self.inside.held.bytes (omega (arith, c.len.ensures, c.if-len-eq0.true))))
    (rw (← c.self.view_is) c.if-not-self.true) c.requires.at_end

pub returns-clause-line : goal.returns-clause-line
returns-clause-line c =
    let held : List ℕ = c.self.inside.held.bytes in
    let clean : HasNoNewline held = rw (← c.self.view_is) at c.requires.clean in
    let at_end : c.self.inside.ended ≡ true = ap (λ (r : ReaderState). r.ended) c.self.view_is ∙ c.requires.at_end in
    let some : (c.self.inside.long ≡ true) ⊎ (0 < length held) =
    elim c.else-not-self.branch [
      | else-not-self-via-then-not-self+else-len-eq0 w ↦ inr (omega (arith, w.len.ensures, w.if-len-eq0.false))
      | else-not-self-via-else-not-self w ↦ inl w.if-not-self.false
    ] in
    rw (← c.self.view_is)
    (line_at_end _ _ c.judge-line.result (rw (c.line.ensures, c.take_rest.ensures.line) at c.judge-line.ensures.judged) clean at_end some
    (rw (c.take_rest.ensures.line, c.take_rest.ensures.empty) refl))
