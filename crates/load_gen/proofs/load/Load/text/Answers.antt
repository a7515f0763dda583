-- The index is one of an end, and the piece there is the text.
use Rattle.std.proofs.Common.{◌≡◌, length, get_or, string_bytes, refl, ap, ap₂, sym, ◌∙◌, List, ℕ, arith}
use Rattle.std.proofs.lemmas.Option.{slice_get_read}
use Rattle.funnel_model.specs.WordSets.{pieces}
use Rattle.funnel_model.proofs.WordSetLemmas.{length-pieces}
use Rattle.load_gen.proofs.load.Load.text.Goals as goal

pub text_at-requires-clause-in_range : goal.text_at-requires-clause-in_range
text_at-requires-clause-in_range c =
    let is : length c.args.self.now ≡ length c.self.inside.ends.items =
    ap (λ (texts : List (List ℕ)). length texts) (sym c.self.view_is) ∙ length-pieces 0 c.self.inside.ends.items (string_bytes c.self.inside.texts) in
    let ends : length c.as_slice.result.now ≡ length c.self.inside.ends.items = ap (λ (es : List ℕ). length es) c.as_slice.ensures.value in
    omega (arith, is, ends, c.requires)

pub returns : goal.returns
returns c =
    slice_get_read c.args.self.now (length c.args.self.now) c.args.i c.text_at.result.now refl c.requires
    (c.text_at.ensures
    ∙ ap₂ (λ (ends bytes : List ℕ). get_or (pieces 0 ends bytes) c.args.i c.text_at.result.now) c.as_slice.ensures.value c.as_str.ensures.value
    ∙ ap (λ (texts : List (List ℕ)). get_or texts c.args.i c.text_at.result.now) c.self.view_is)
