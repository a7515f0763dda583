-- The class of a word, by the list.
use Rattle.std.proofs.Common.{◌≡◌, ℕ, false, List, get_or, Some, ap, sym, ◌∙◌}
use Rattle.std.specs.Prelude.{All}
use Rattle.std.specs.Option.{option_map_or}
use Rattle.std.specs.Ordering.{nat_cmp, is_eq}
use Rattle.std.specs.Cmp.Lexicographic.{slice_cmp, bytes_decides}
use Rattle.std.proofs.lemmas.Bool.{false_from_ne_true}
use Rattle.std.proofs.lemmas.List.{get_or_default}
use Rattle.std.proofs.lemmas.List.Elements.{recursion_from_All}
use Rattle.std.proofs.lemmas.Map.Text.{is_eq-slice_cmp}
use Rattle.funnel_model.specs.Treatment.{class_of_count}
use Rattle.funnel_model.specs.Sizes.{class_of_word}
use Rattle.funnel_model.specs.TreatmentLaws.{ListedWordsHaveTheirClass, UnlistedWordsHaveTheLastClass}
use Rattle.funnel_model.proofs.ListedLemmas.{listed_count-at, listed_count-none}

pub listed-class : ListedWordsHaveTheirClass
unfolding class_of_word
listed-class config order word f (k, less, is) =
    ap (λ count. option_map_or (λ f. class_of_count f config.documents) count 15)
    (listed_count-at config.words word k (word, f) order less (ap (λ e. e.0) is) ∙ ap (λ e. Some e.1) is)

pub unlisted-class : UnlistedWordsHaveTheLastClass
unfolding class_of_word
unlisted-class config word absent =
    let differ : All (λ entry. is_eq (slice_cmp nat_cmp entry.0 word) ≡ false) config.words =
    λ k d less.
    false_from_ne_true (is_eq (slice_cmp nat_cmp (get_or config.words k d).0 word)) (λ equal.
    let entry : List ℕ × ℕ = get_or config.words k d in
    let bytes : entry.0 ≡ word = (bytes_decides entry.0 word).0 (sym (is_eq-slice_cmp entry.0 word) ∙ equal) in
    absent entry.1 (k, less, get_or_default config.words k (word, entry.1) d less ∙ ap (λ w. (w, entry.1)) bytes)) in
    ap (λ count. option_map_or (λ f. class_of_count f config.documents) count 15)
    (listed_count-none config.words word (recursion_from_All _ config.words differ))
