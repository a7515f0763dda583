use Rattle.std.proofs.Common.{◌≡◌, arith, subst, ◌∙◌, ap, sym, codes, is_some}
use Rattle.std.specs.Str.Parse.{ParsesUnsigned, ExplainsUnsignedError, HasUnsignedDigitsIfOk}
use Rattle.funnel_model.specs.declared.config.TheConstants.{MOST_PASSES}
use Rattle.load_gen.specs.declared.limits.TheConstants.{MOST_DOCS, MOST_WORDS}
use Rattle.clap.specs.Words.{found_of, rows_of}
use Rattle.command_line.specs.Commands.{IsLoadInRange, load_of}
use Rattle.command_line.specs.declared.command.LoadCommand.{LoadCommand}
use Rattle.command_line.proofs.Faultless.{some_is}
use Rattle.command_line.proofs.NumberLemmas.{load_in_range, load_is, option_read}
use Rattle.command_line.proofs.command.load_in.Goals as goal

pub unwrap-requires : goal.unwrap-requires
unwrap-requires c =
    let docs = option_read (λ bs r. ParsesUnsigned 32 10 bs r × ExplainsUnsignedError 10 bs r × HasUnsignedDigitsIfOk bs r) 32 1 MOST_DOCS (codes "docs") (found_of c.args.found.now) c.get_one.result (omega arith) c.requires.docs c.get_one.ensures.value (λ u x g. g.0) in
    ap is_some docs

pub unwrap-requires-2 : goal.unwrap-requires-2
unwrap-requires-2 c =
    let workers = option_read (λ bs r. ParsesUnsigned 32 10 bs r × ExplainsUnsignedError 10 bs r × HasUnsignedDigitsIfOk bs r) 32 1 MOST_PASSES (codes "workers") (found_of c.args.found.now) c.get_one-2.result (omega arith) c.requires.workers c.get_one-2.ensures.value (λ u x g. g.0) in
    ap is_some workers

pub unwrap-requires-3 : goal.unwrap-requires-3
unwrap-requires-3 c =
    let words = option_read (λ bs r. ParsesUnsigned 32 10 bs r × ExplainsUnsignedError 10 bs r × HasUnsignedDigitsIfOk bs r) 32 0 MOST_WORDS (codes "words") (found_of c.args.found.now) c.get_one-3.result (omega arith) c.requires.words c.get_one-3.ensures.value (λ u x g. g.0) in
    ap is_some words

pub unwrap-requires-4 : goal.unwrap-requires-4
unwrap-requires-4 c =
    let seed = option_read (λ bs r. ParsesUnsigned 64 10 bs r × ExplainsUnsignedError 10 bs r × HasUnsignedDigitsIfOk bs r) 64 0 18446744073709551615 (codes "seed") (found_of c.args.found.now) c.get_one-4.result (omega arith) c.requires.seed c.get_one-4.ensures.value (λ u x g. g.0) in
    ap is_some seed

load_read : (c : goal.After-unwrap-4) → ◌≡◌ {A = LoadCommand} (record { docs = c.unwrap.result; workers = c.unwrap-2.result; words = c.unwrap-3.result; seed = c.unwrap-4.result })
    (load_of (rows_of (found_of c.args.found.now)))
load_read c =
    let found = found_of c.args.found.now in
    let docs = option_read (λ bs r. ParsesUnsigned 32 10 bs r × ExplainsUnsignedError 10 bs r × HasUnsignedDigitsIfOk bs r) 32 1 MOST_DOCS (codes "docs") found c.get_one.result (omega arith) c.requires.docs c.get_one.ensures.value (λ u x g. g.0) in
    let workers = option_read (λ bs r. ParsesUnsigned 32 10 bs r × ExplainsUnsignedError 10 bs r × HasUnsignedDigitsIfOk bs r) 32 1 MOST_PASSES (codes "workers") found c.get_one-2.result (omega arith) c.requires.workers c.get_one-2.ensures.value (λ u x g. g.0) in
    let words = option_read (λ bs r. ParsesUnsigned 32 10 bs r × ExplainsUnsignedError 10 bs r × HasUnsignedDigitsIfOk bs r) 32 0 MOST_WORDS (codes "words") found c.get_one-3.result (omega arith) c.requires.words c.get_one-3.ensures.value (λ u x g. g.0) in
    let seed = option_read (λ bs r. ParsesUnsigned 64 10 bs r × ExplainsUnsignedError 10 bs r × HasUnsignedDigitsIfOk bs r) 64 0 18446744073709551615 (codes "seed") found c.get_one-4.result (omega arith) c.requires.seed c.get_one-4.ensures.value (λ u x g. g.0) in
    load_is (rows_of found) _ _ _ _ (some_is (sym c.unwrap.ensures ∙ docs)) (some_is (sym c.unwrap-2.ensures ∙ workers)) (some_is (sym c.unwrap-3.ensures ∙ words))
    (some_is (sym c.unwrap-4.ensures ∙ seed))

pub returns-clause-load : goal.returns-clause-load
returns-clause-load c = load_read c

pub returns-clause-in_range : goal.returns-clause-in_range
returns-clause-in_range c = subst IsLoadInRange (sym (load_read c)) (load_in_range (rows_of (found_of c.args.found.now)) c.requires)
