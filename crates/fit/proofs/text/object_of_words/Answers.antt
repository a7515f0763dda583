use Rattle.std.proofs.Common.{◌≡◌, ◌∙◌, ◌+◌, ◌<◌, ℕ, List, ap, arith, get_or, length, map, string_bytes, subst, sym, take, take_all, ◌≤◌}
use Rattle.std.proofs.lemmas.List.{get_or-map, length-map}
use Rattle.funnel_model.specs.Listed.{IsInByteOrder, listed_pair}
use Rattle.serde_json.proofs.Views.{members_view-insert_entry}
use Rattle.serde_json.specs.Data.{Data, Members, put}
use Rattle.serde_json.specs.View.{members_view, view}
use Rattle.fit.proofs.Writing.{put_next}
use Rattle.fit.specs.Texts.{members_of_words, whole}
use Rattle.fit.proofs.text.object_of_words.Goals as goal

pub loop-word-preserved : goal.loop-word-preserved
loop-word-preserved c =
    let items = c.as_slice-word-items.result.now in
    let es = map listed_pair items in
    let i = c.loop-word.word-index in
    let item = c.loop-word-item.result in
    let before = c.loop-word.object.entries in
    let less : i < length items = c.loop-word-test.true in
    let order : IsInByteOrder es = subst IsInByteOrder (sym c.as_slice-word-items.ensures.entries) c.as_slice-word-items.ensures.in_order in
    let at : get_or es i (listed_pair item) ≡ listed_pair item =
    get_or-map listed_pair items i item (listed_pair item) less ∙ ap listed_pair (sym c.loop-word-item.is) in
    let next = subst (λ (x : List ℕ × ℕ). put x.0 (whole x.1) (members_of_words (take i es)) ≡ members_of_words (take (i + 1) es)) at
    (put_next es i (listed_pair item) order (omega (arith, less, length-map items listed_pair))) in
    let copied : string_bytes c.in_ok-clone.field-0 ≡ string_bytes item.0 = c.in_ok-clone.ensures.cases in
    ap members_view c.in_ok-insert.ensures.entries ∙ members_view-insert_entry before c.in_ok-clone.field-0 c.from.result
    ∙ ap (λ (w : List ℕ). put w (view c.from.result) (members_view before)) copied
    ∙ ap (λ (v : Data). put (string_bytes item.0) v (members_view before)) c.from.ensures
    ∙ ap (λ (ms : Members). put (string_bytes item.0) (whole item.1) ms) c.loop-word.invariant
    ∙ next

pub returns : goal.returns
returns c =
    let es = map listed_pair c.as_slice-word-items.result.now in
    let all : length es ≤ c.loop-word.word-index = omega (arith, c.loop-word-test.false, length-map c.as_slice-word-items.result.now listed_pair) in
    c.loop-word.invariant ∙ ap members_of_words (take_all c.loop-word.word-index es all ∙ c.as_slice-word-items.ensures.entries)
