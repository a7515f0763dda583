-- One more bit of the word.
use Rattle.std.proofs.Common.{◌++◌, ◌∷◌, [], List, map, ap, sym, ◌∙◌, append_assoc, arith}
use Rattle.std.proofs.lemmas.List.{map-append}
use Rattle.std.specs.List.{range_with_len}
use Rattle.funnel_model.proofs.Ranges.{range_more}
use Rattle.funnel_model.proofs.TreatmentLemmas.{row_count-is_small}
use Rattle.funnel_model.specs.declared.bit_list.Bit.{Bit}
use Rattle.row_layout.specs.DocumentBits.{bit_from}
use Rattle.row_layout.specs.Rows.{hashed_row}
use Rattle.row_layout.specs.declared.row.Row.{Row}
use Rattle.row_layout.proofs.layout.Layout.push_hashed_bits.Goals as goal

pub push_reserved-requires : goal.push_reserved-requires
push_reserved-requires c =
    let config = c.self.inside.config in
    let counted = c.self.invariant.classes_are.counts_are c.args.class c.requires.class in
    omega (arith, c.requires.room, c.loop-j.invariant.many, c.loop-j.invariant.capacity, counted, row_count-is_small config.one_in config.snr c.args.class)

pub loop-j-preserved : goal.loop-j-preserved
loop-j-preserved c =
    let before = c.args.bits.now.items in
    let bit = bit_from c.args.places.now.first c.args.places.now.column in
    record {
      bits = λ word is.
          let row = hashed_row c.args.self.now.config word c.args.class in
          let so_far : List Row = map row (range_with_len 0 c.loop-j.j) in
          c.push_reserved.ensures.items
          ∙ ap (λ (xs : List Bit). xs ++ c.hashed_bit.result ∷ []) (c.loop-j.invariant.bits word is)
          ∙ ap (λ (x : Bit). (before ++ map bit so_far) ++ x ∷ []) (c.hashed_bit.ensures word is)
          ∙ append_assoc before (map bit so_far) (bit (row c.loop-j.j) ∷ [])
          ∙ ap (λ (xs : List Bit). before ++ xs) (sym (map-append bit so_far (row c.loop-j.j ∷ [])))
          ∙ ap (λ (rows : List Row). before ++ map bit rows) (sym (ap (map row) (range_more c.loop-j.j) ∙ map-append row (range_with_len 0 c.loop-j.j) (c.loop-j.j ∷ [])));
      many = omega (arith, c.push_reserved.ensures.len, c.loop-j.invariant.many);
      capacity = c.push_reserved.ensures.capacity ∙ c.loop-j.invariant.capacity;
    }

pub returns-clause-few : goal.returns-clause-few
returns-clause-few c =
    let config = c.self.inside.config in
    let counted = c.self.invariant.classes_are.counts_are c.args.class c.requires.class in
    omega (arith, c.loop-j.invariant.many, c.loop-j.auto.j-end, counted, row_count-is_small config.one_in config.snr c.args.class)
