-- Each word is looked up in the set.
use Rattle.std.proofs.Common.{◌≡◌, ℕ, List, sym, ◌∙◌, rules, tests}
use Rattle.std.proofs.lemmas.Iterator.Consumers.{YieldsList-from_rest}
use Rattle.std.proofs.lemmas.Iterator.Search.{all_from_yields_List}
use Rattle.std.specs.List.{list_any}
use Rattle.std.specs.Map.Iter.{deref}
use Rattle.std.specs.Str.{bytes_eq}
use Rattle.document_store.proofs.WordSets.{has_every, has_every-decides}
use Rattle.document_store.proofs.doc.has_each.Goals as goal

pub returns : goal.returns
returns c =
    let set = c.args.set.now in
    let is : c.all.result ≡ has_every set c.args.words.now =
    all_from_yields_List (λ (word : List ℕ). list_any (bytes_eq word) set) _ _ c.all.result c.all.ensures.ran
    (YieldsList-from_rest {shows = deref} c.args.words.now c.iter.ensures.words) (λ x b q k. search (rules, tests)) in
    let decides = has_every-decides set c.args.words.now in
    (λ yes. decides.1 (sym is ∙ yes), λ every. is ∙ decides.0 every)
