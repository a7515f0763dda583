use Rattle.std.proofs.Common.{rules, ◌≡◌, false, length, map, Some, None, inl, inr, refl, sym, ap, subst, ◌∙◌}
use Rattle.std.proofs.lemmas.List.{length-map}
use Rattle.funnel_server.specs.Gates.{gate_state}
use Rattle.command_line.specs.Commands.{command_of, is_fit}
use Rattle.funnel.specs.Texts.{text_asked}
use Rattle.funnel.proofs.AskedTexts.{asks_no_text}
use Rattle.funnel.specs.Ends.{why_of_config}
use Rattle.funnel.specs.Misfits.{misfit_of}
use Rattle.funnel.specs.Programs.{Streams}
use Rattle.funnel.specs.Words.{words_in}
use Rattle.command_line.specs.declared.command.Command.TheVariants as command
use Rattle.funnel.specs.declared.ends.Why.TheVariants as why_of
use Rattle.funnel.proofs.Endings.{are_no_fit, serve_in_turns}
use Rattle.funnel.proofs.Turns.{refused_not_done, runs_nowhere}
use Rattle.funnel.proofs.Uses.{fits_are_written, fits_read, not_carried_out, run_without_memory, texts_are_written, unread_by_run, unwritten_by_load, unwritten_by_run}
use Rattle.funnel.proofs.program.funnel_main.Goals as goal

pub returns-in-Some-clause-in_turns : goal.returns-in-Some-clause-in_turns
returns-in-Some-clause-in_turns g c is_run =
    let told : text_asked (words_in c.args.words.now) ≡ Some c.in-Some.text = search rules in
    absurd (asks_no_text (words_in c.args.words.now) command.Run c.in-Some.text is_run told)

pub returns-in-Some-clause-output_unused : goal.returns-in-Some-clause-output_unused
returns-in-Some-clause-output_unused g c unused =
    let told : text_asked (words_in c.args.words.now) ≡ Some c.in-Some.text = search rules in
    absurd (texts_are_written (words_in c.args.words.now) c.in-Some.text _ _ told unused)

pub returns-in-Err-Memory-clause-in_turns : goal.returns-in-Err-Memory-clause-in_turns
returns-in-Err-Memory-clause-in_turns g c is_run =
    runs_nowhere g.S.Source.read_gives g.K.Sink.write_gives (c.args.input.now, c.args.output.now) c.unopened-in-Err-Memory.result.why why_of.Memory
    (ap (λ ended. ended.why) c.unopened-in-Err-Memory.ensures) (λ is. cc)

pub returns-in-Err-clause-in_turns : goal.returns-in-Err-clause-in_turns
returns-in-Err-clause-in_turns g c is_run =
    runs_nowhere g.S.Source.read_gives g.K.Sink.write_gives (c.args.input.now, c.args.output.now) c.unopened-in-Err.result.why (why_of_config c.in-Err.fault)
    (ap (λ ended. ended.why) c.unopened-in-Err.ensures ∙ c.from.ensures) (refused_not_done c.in-Err.fault)

pub returns-in-Serve-clause-ends : goal.returns-in-Serve-clause-ends
returns-in-Serve-clause-ends g c =
    let state = gate_state g.G.Gate g.G.Conn.Source g.G.Conn.Sink in
    let serve = c.in-Serve.serve in
    let config = c.in-Ok-read_config.config in
    let words = words_in c.args.words.now in
    let before : Streams = record {
      config = g.C.Source.incoming c.args.config.now;
      input = g.S.Source.incoming c.args.input.now;
      output = g.K.Sink.outgoing c.args.output.now;
      gates = map state c.args.gates.items;
    } in
    let after : Streams = record before { config = g.C.Source.incoming c.read_config.new.source; gates = map state c.serve_command.result.gates.items } in
    let fits : misfit_of (command.Serve serve) (length c.args.gates.items) config ≡ None = search rules in
    let words_are : command_of words ≡ Some (command.Serve serve) = search rules in
    serve_in_turns g.G.Gate g.G.Conn.Source g.G.Conn.Sink words before after c.serve_command.result.why c.serve_command.result.closed c.args.gates.items c.serve_command.result.gates.items serve config refl refl
    (record { words_are = words_are; no_fit = ap is_fit words_are; read = search rules; faults = search rules })
    (subst (λ n. misfit_of (command.Serve serve) n config ≡ None) (sym (length-map c.args.gates.items state)) fits) refl refl c.serve_command.ensures.ends c.serve_command.ensures.kept

pub returns-in-Err-clause-ends : goal.returns-in-Err-clause-ends
returns-in-Err-clause-ends g c =
    let words = words_in c.args.words.now in
    let words_are : command_of words ≡ Some c.in-Ok.command = search rules in
    let no_fit : is_fit (command_of words) ≡ false = are_no_fit words c.in-Ok.command words_are c.in_default-command.not-Fit in
    search (rules, no_fit)

pub returns-in-Some-misfit-clause-ends : goal.returns-in-Some-misfit-clause-ends
returns-in-Some-misfit-clause-ends g c =
    let state = gate_state g.G.Gate g.G.Conn.Source g.G.Conn.Sink in
    let asked = c.in-Ok.command in
    let config = c.in-Ok-read_config.config in
    let words = words_in c.args.words.now in
    let words_are : command_of words ≡ Some asked = search rules in
    let misfits : misfit_of asked (length c.args.gates.items) config ≡ Some c.in-Some-misfit.misfit = search rules in
    inl (
      inr (inr (inr (inl (record {
        command = asked;
        config = config;
        configured = record { words_are = words_are; no_fit = are_no_fit words asked words_are c.in_default-command.not-Fit; read = search rules; faults = search rules };
        misfit = c.in-Some-misfit.misfit;
        misfits = subst (λ n. misfit_of asked n config ≡ Some c.in-Some-misfit.misfit) (sym (length-map c.args.gates.items state)) misfits;
        others = search rules;
        cause = search rules;
        none = search rules;
      })))),
      search rules,
    )

pub returns-in-Load-clause-ends : goal.returns-in-Load-clause-ends
returns-in-Load-clause-ends g c =
    let words = words_in c.args.words.now in
    let words_are : command_of words ≡ Some (command.Load c.in-Load.load) = search rules in
    let no_fit : is_fit (command_of words) ≡ false = ap is_fit words_are in
    search (rules, no_fit)

pub returns-in-Run-clause-input_unused : goal.returns-in-Run-clause-input_unused
returns-in-Run-clause-input_unused g c unused =
    let words_are : command_of (words_in c.args.words.now) ≡ Some command.Run = search rules in
    (run_without_memory _ _ _ _ _ _ _ c.run_command-why.ensures.ran c.run_command-why.ensures.without_memory
    (unread_by_run (words_in c.args.words.now) _ _ words_are unused)).0

pub returns-in-Run-clause-output_unused : goal.returns-in-Run-clause-output_unused
returns-in-Run-clause-output_unused g c unused =
    let words_are : command_of (words_in c.args.words.now) ≡ Some command.Run = search rules in
    (run_without_memory _ _ _ _ _ _ _ c.run_command-why.ensures.ran c.run_command-why.ensures.without_memory
    (unwritten_by_run (words_in c.args.words.now) _ _ words_are unused)).1

pub returns-in-Load-clause-output_unused : goal.returns-in-Load-clause-output_unused
returns-in-Load-clause-output_unused g c unused =
    let words_are : command_of (words_in c.args.words.now) ≡ Some (command.Load c.in-Load.load) = search rules in
    not_carried_out _ _ c.load_command-why.ensures.untouched c.load_command-why.ensures.without_memory
    (unwritten_by_load (words_in c.args.words.now) c.in-Load.load _ _ words_are unused)

pub returns-in-Fit-clause-input_unused : goal.returns-in-Fit-clause-input_unused
returns-in-Fit-clause-input_unused g c unused =
    let words_are : command_of (words_in c.args.words.now) ≡ Some (command.Fit c.in-Fit.fit) = search rules in
    absurd (fits_read (words_in c.args.words.now) c.in-Fit.fit _ _ words_are unused)

pub returns-in-Fit-clause-output_unused : goal.returns-in-Fit-clause-output_unused
returns-in-Fit-clause-output_unused g c unused =
    let words_are : command_of (words_in c.args.words.now) ≡ Some (command.Fit c.in-Fit.fit) = search rules in
    absurd (fits_are_written (words_in c.args.words.now) c.in-Fit.fit _ _ words_are unused)
