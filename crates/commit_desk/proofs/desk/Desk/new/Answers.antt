use Rattle.std.proofs.Common.{◌+◌, ◌*◌, ◌^◌, ◌%◌, ◌<◌, List, arith, sym, refl, ap, ◌∙◌, subst, replicate}
use Rattle.document_store.specs.Slots.{free_slot}
use Rattle.funnel_model.specs.Configuration.{IsInRange}
use Rattle.funnel_model.specs.declared.config.Config.{Config}
use Rattle.funnel_model.specs.declared.event.Event.{Event}
use Rattle.funnel_model.specs.Legal.{Limits, awaited}
use Rattle.funnel_model.specs.Sizes.{words_of_slice}
use Rattle.row_layout.specs.Layouts.{LayoutId}
use Rattle.slice_rule.specs.Pools.{limits_of}
use Rattle.commit_desk.specs.Kept.{Books, AreBooksOf, IsDesk}
use Rattle.commit_desk.specs.Layouts.{AreFirst}
use Rattle.commit_desk.proofs.Keeping.{kept-none, left-same}
use Rattle.commit_desk.proofs.KeptNew.{columns_as_made, few_columns, kept-new, some_columns}
use Rattle.commit_desk.proofs.desk.Desk.new.Goals as goal

pub invariant_of-desk : goal.invariant_of-desk
invariant_of-desk c =
    let pool = c.args.home.pool in
    let config = c.args.config.now in
    let limits = limits_of config (words_of_slice config) in
    let columns = columns_as_made config c.requires.config in
    let books : Books = record {
      slices = config.slices;
      columns = 64 * (1 * 2 ^ config.max_rank % 2 ^ 32) * config.blocks;
      events = 0;
      journal = c.in_ok-new.field-0;
      table = c.in_ok-new-2.field-0;
      live = c.in_ok-new-3.field-0;
      tokens = c.in_ok-new-4.field-0;
      stages = c.in_ok-new-5.field-0;
      layouts = c.in_ok-new-6.field-0;
    } in
    let desk : IsDesk pool c.args.events_limit c.args.home.history books = record {
      in_range = subst IsInRange (sym c.requires.made_with) c.requires.config;
      sizes = c.requires.sizes ∙ ap (λ (k : Config). limits_of k (words_of_slice k)) (sym c.requires.made_with);
      some = c.requires.some;
      bounded = c.requires.bounded;
      none_awaited = ap awaited c.requires.empty;
      kept = subst (λ (k : Config). AreBooksOf k pool.limits c.args.events_limit c.args.home.history books) (sym c.requires.made_with)
          (subst (λ (l : Limits). AreBooksOf config l c.args.events_limit c.args.home.history books) (sym c.requires.sizes)
          (subst (λ (h : List Event). AreBooksOf config limits c.args.events_limit h books) (sym c.requires.empty)
          (kept-new config limits c.args.events_limit books c.requires.config (some_columns config c.requires.config) refl columns refl c.in_ok-new.ensures
          c.in_ok-new-2.ensures.slices (c.in_ok-new-2.ensures.columns ∙ columns) (c.in_ok-new-2.ensures.free ∙ ap (λ n. replicate (config.slices * n) free_slot) columns) c.in_ok-new-2.ensures.all_there c.in_ok-new-3.ensures.empty c.in_ok-new-3.ensures.slices (c.in_ok-new-3.ensures.slice_columns ∙ columns)
          c.in_ok-new-4.ensures (c.in_ok-new-5.ensures.columns ∙ columns) c.in_ok-new-5.ensures.stages c.in_ok-new-5.ensures.mark
          (subst (λ (l : LayoutId). AreFirst config.slices l c.in_ok-new-6.field-0) c.requires.laid c.in_ok-new-6.ensures))));
    } in
    record {
      whole = books.table;
      desk = desk;
      left = left-same books.table;
      documents = kept-none books.tokens books.table c.in_ok-new-7.field-0 config.passes c.in_ok-new-4.ensures c.in_ok-new-7.ensures.asked
          (c.in_ok-new-7.ensures.columns ∙ ap (λ n. n * books.columns) (sym c.in_ok-new-2.ensures.slices) ∙ ap (λ n. books.table.slices * n) (sym c.in_ok-new-2.ensures.columns))
          (c.in_ok-new-2.ensures.free ∙ ap (λ n. replicate (n * books.columns) free_slot) (sym c.in_ok-new-2.ensures.slices)
          ∙ ap (λ n. replicate (books.table.slices * n) free_slot) (sym c.in_ok-new-2.ensures.columns));
    }

pub new-requires-3 : goal.new-requires-3
new-requires-3 c =
    let few = subst (λ n. c.args.config.now.slices * n + 1 < 2 ^ 32) (sym (columns_as_made c.args.config.now c.requires.config)) (few_columns c.args.config.now c.requires.config) in
    omega (arith, few)

pub new-requires-6-clause-some : goal.new-requires-6-clause-some
new-requires-6-clause-some c = c.requires.config.slices.0

pub new-requires-6-clause-few : goal.new-requires-6-clause-few
new-requires-6-clause-few c = c.requires.config.slices.1

pub new-requires-7 : goal.new-requires-7
new-requires-7 c = subst (λ n. c.args.config.now.slices * n + 1 < 2 ^ 32) (sym (columns_as_made c.args.config.now c.requires.config)) (few_columns c.args.config.now c.requires.config)
