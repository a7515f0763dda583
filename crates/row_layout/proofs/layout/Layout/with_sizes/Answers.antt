use Rattle.std.proofs.Common.{◌≡◌, List, ℕ, get_or, ap, sym, subst, ◌∙◌, arith}
use Rattle.funnel_model.specs.Sizes.{shared_rows}
use Rattle.funnel_model.proofs.SizesLemmas.{shared_rows-positive}
use Rattle.funnel_model.specs.declared.config.Config.{Config}
use Rattle.row_layout.specs.Layouts.{IsLaidOut}
use Rattle.row_layout.proofs.Spans.{row_table-at, slice-small}
use Rattle.row_layout.proofs.layout.Layout.with_sizes.Goals as goal

pub bases_of-bases-requires-clause-small : goal.bases_of-bases-requires-clause-small
bases_of-bases-requires-clause-small c = slice-small c.args.config.now c.args.room c.requires.in_range c.requires.fits c.requires.small_pool

pub invariant_of-result : goal.invariant_of-result
invariant_of-result c =
    let config = c.args.config.now in
    let range = c.requires.in_range in
    subst (λ (k : Config). IsLaidOut k c.args.room c.row_counts.result c.bases_of-bases.result c.new-classes.result c.in_ok-listed.listed.items c.in_ok-table.table)
    (sym c.in_ok-copy.ensures)
    (record {
      in_range = range;
      fits = c.requires.fits;
      small_pool = c.requires.small_pool;
      rows_are = λ rank low.
          let counted : get_or c.args.sizes.now.rows rank 0 ≡ shared_rows config rank = ap (λ (rows : List ℕ). get_or rows rank 0) c.requires.rows ∙ row_table-at config range rank low in
          c.row_counts.ensures rank (omega (arith, counted, shared_rows-positive config rank)) ∙ counted;
      bases_are = c.bases_of-bases.ensures;
      classes_are = c.new-classes.ensures;
      listed_are = c.in_ok-listed.ensures;
      table_is = c.in_ok-table.ensures.table;
    })
