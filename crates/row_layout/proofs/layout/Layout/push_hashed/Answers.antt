-- One more row of the word.
use Rattle.std.proofs.Common.{◌++◌, ◌∷◌, [], List, map, ap, sym, subst, ◌∙◌, append_assoc, inr}
use Rattle.std.proofs.lemmas.List.{map-append}
use Rattle.std.proofs.lemmas.List.Elements.{All-push}
use Rattle.std.specs.List.{All, range_with_len}
use Rattle.funnel_model.proofs.Ranges.{range_more}
use Rattle.row_layout.specs.Rows.{IsRowOf, hashed_row}
use Rattle.row_layout.specs.declared.row.Row.{Row}
use Rattle.row_layout.proofs.layout.Layout.push_hashed.Goals as goal

pub loop-j-preserved : goal.loop-j-preserved
loop-j-preserved c =
    let before = c.args.rows.now.items in
    record {
      rows = λ word is.
          let row = hashed_row c.args.self.now.config word c.args.class in
          let so_far : List Row = map row (range_with_len 0 c.loop-j.j) in
          c.in_ok-push.ensures.items
          ∙ ap (λ (xs : List Row). xs ++ c.hashed.result ∷ []) (c.loop-j.invariant.rows word is)
          ∙ ap (λ (x : Row). before ++ so_far ++ x ∷ []) (c.hashed.ensures.value word is)
          ∙ append_assoc before so_far (row c.loop-j.j ∷ [])
          ∙ ap (λ (xs : List Row). before ++ xs) (sym (ap (map row) (range_more c.loop-j.j) ∙ map-append row (range_with_len 0 c.loop-j.j) (c.loop-j.j ∷ [])));
      laid =
          subst (All (IsRowOf c.args.self.now.config)) (sym c.in_ok-push.ensures.items)
          (All-push (IsRowOf c.args.self.now.config) c.loop-j.rows.items c.hashed.result c.loop-j.invariant.laid (inr c.hashed.ensures.laid));
    }

pub returns-in_err-push-clause-laid : goal.returns-in_err-push-clause-laid
returns-in_err-push-clause-laid c = subst (All (IsRowOf c.args.self.now.config)) (sym c.in_err-push.ensures.items) c.loop-j.invariant.laid
