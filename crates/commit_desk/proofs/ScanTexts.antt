-- What a scan for a search tells of the documents that were live in its slices as the find began.
use Rattle.std.proofs.Common.{◌≡◌, ℕ, ◌<◌, ◌≤◌, ◌&&◌, Bool, true, false, not, List, ◌++◌, ⊎_elim, refl, sym, ap, ◌∙◌, subst, Contains}
use Rattle.std.proofs.Math.Bool.{and-true}
use Rattle.std.proofs.lemmas.Bool.{and_from, and_parts}
use Rattle.std.proofs.lemmas.List.Elements.{Contains-append_left, Contains-append_right}
use Rattle.funnel_model.proofs.LiveColumns.{live_column_is_live, live_has_column, live_on_one_column}
use Rattle.funnel_model.proofs.WordLemmas.{Contains-has, each-from_list_all, list_all-from_each, one_test}
use Rattle.funnel_model.specs.Configuration.{IsInRange}
use Rattle.funnel_model.specs.History.{Document}
use Rattle.funnel_model.specs.Legal.{IsLegal, Limits}
use Rattle.funnel_model.specs.RowWords.{IsCommitted}
use Rattle.funnel_model.specs.Searches.{Searches, AreEachAlike, all_of, has_all, is_kept}
use Rattle.funnel_model.specs.Sizes.{columns_of_slice, words_of_slice}
use Rattle.funnel_model.specs.Slices.{IsLiveOn}
use Rattle.funnel_model.specs.Tunings.{treat}
use Rattle.funnel_model.specs.Words.{has_word, words}
use Rattle.funnel_model.specs.declared.bit_list.Bit.{Bit}
use Rattle.funnel_model.specs.declared.claim.Token.{Token}
use Rattle.funnel_model.specs.declared.config.Config.{Config}
use Rattle.funnel_model.specs.declared.event.Event.{Event}
use Rattle.row_layout.proofs.Lists.{Contains-flat_map, Contains-from_flat_map}
use Rattle.row_layout.proofs.Owners.{exact-has_row}
use Rattle.row_layout.proofs.ReadSearches.{read-tells_texts, row-committed, search-read}
use Rattle.row_layout.specs.AtomReads.{IsOfItsOwner, IsPlanOf, WasReadAs}
use Rattle.row_layout.specs.DocumentBits.{bit_of_row}
use Rattle.row_layout.specs.Owners.{is_exact}
use Rattle.row_layout.specs.Rows.{row_of_word, rows_of_word}
use Rattle.row_layout.specs.Sound.{IsSound}
use Rattle.slice_rule.specs.Seats.{PassState, WasReadUnder}
use Rattle.commit_desk.specs.Laws.{IsScanAfter, ScansMissNone, ScansTellTexts}
use Rattle.commit_desk.specs.Resolving.{IsRestOf}
use Rattle.commit_desk.specs.Scans.{AreScannedFor, IsScannedFor, WereRead, keeps_text}
use Rattle.commit_desk.proofs.ExactWords.{read_tells_words}
use Rattle.commit_desk.proofs.OpenReads.{committed_still, legal_then, of_its_owner}

module _ (limits : Limits) (opening config : Config) (earlier : List Event) (pass : PassState) (token : Token) (required : List (List ℕ)) (residue : Searches (List (List ℕ)))
    (sure unsure : List (ℕ × ℕ)) (legal : IsLegal limits pass.front) (sound : IsSound opening earlier) (is : IsScanAfter limits opening config earlier pass token)
    (scanned : AreScannedFor config pass token required residue sure unsure) (slice column : ℕ) (document : Document) (since : ℕ)
    (lives : IsLiveOn earlier slice column document since) (of : Contains token.slices slice) where
  before : IsLegal limits earlier
  before = legal_then limits opening earlier pass token.opened_at legal is.find

  treated : treat opening slice earlier ≡ config
  treated = is.treated slice of

  in_engine : column < limits.columns
  in_engine =
      let home = live_has_column limits earlier document before (live_column_is_live earlier slice column document since lives) in
      let one = live_on_one_column limits earlier home.0 home.1 slice column home.2 since document document before home.5 lives refl in
      subst (λ k. k < limits.columns) one.1 home.4

  in_range : IsInRange (treat opening slice earlier)
  in_range = subst IsInRange (sym treated) is.suits.in_range

  in_slice : column < columns_of_slice (treat opening slice earlier)
  in_slice = subst (λ (k : Config). column < columns_of_slice k) (sym treated) (subst (λ n. column < n) is.columns_are in_engine)

  fits : words_of_slice (treat opening slice earlier) ≤ words_of_slice opening
  fits = subst (λ (k : Config). words_of_slice k ≤ words_of_slice opening) (sym treated) is.suits.fits

  room_is : pass.pool.limits.slice_words ≡ words_of_slice opening
  room_is = ap (λ (l : Limits). l.slice_words) is.limits_are ∙ is.room

  at : IsScannedFor config pass token.opened_at required residue sure unsure slice column
  at = scanned.each slice column of (subst (λ (l : Limits). column < l.columns) (sym is.limits_are) in_engine)

  -- a bit that was read as zero is of no document
  zero : (bit : Bit) → (IsCommitted pass.front slice bit → ⊥) → IsCommitted earlier slice bit → ⊥
  zero bit none was = none (committed_still limits opening earlier pass token.opened_at legal is.find slice (is.in_use slice of) bit was)

  -- and one that was read as set is of the column's, where the column owns it
  set : (bit : Bit) → WasReadUnder pass token.opened_at bit → IsOfItsOwner limits opening earlier slice column bit
  set bit was = of_its_owner limits opening earlier pass token.opened_at legal is.find slice (is.in_use slice of) column bit is.limits_are is.opening_is was

  -- so what was read of the rest of the search is right of the document
  read_tells : (may_be sure_is : Bool) → WereRead config pass token.opened_at slice column residue may_be sure_is →
      (is_kept (all_of residue) document.text ≡ true → may_be ≡ true) × (sure_is ≡ true → is_kept (all_of residue) document.text ≡ true)
  read_tells may_be sure_is read =
      let IsZero : Bit → Type 0 = λ bit. IsCommitted pass.front slice bit → ⊥ in
      let IsSet : Bit → Type 0 = WasReadUnder pass token.opened_at in
      let planned : AreEachAlike (IsPlanOf (treat opening slice earlier)) residue read.plans =
      subst (λ (k : Config). AreEachAlike (IsPlanOf k) residue read.plans) (sym treated) read.planned in
      let were_read : AreEachAlike (WasReadAs IsZero IsSet (bit_of_row (words_of_slice opening) slice column)) read.plans read.reads =
      subst (λ n. AreEachAlike (WasReadAs IsZero IsSet (bit_of_row n slice column)) read.plans read.reads) room_is read.were_read in
      let after = search-read limits opening earlier slice column IsZero IsSet zero set (all_of residue) (all_of read.plans) (all_of read.reads) planned were_read in
      let told = read-tells_texts limits opening earlier slice column document since (all_of residue) (all_of read.reads) before sound is.room in_range in_engine in_slice fits lives after in
      (λ kept. sym read.may_is ∙ told.0 kept, λ is_sure. told.1 (read.sure_as ∙ is_sure))

  -- a document that has the required words is left
  left_by : has_all document.text required ≡ true → at.is_left ≡ true
  left_by all =
      at.covered (λ bit of_words.
      let row = of_words.0 in
      let found = Contains-from_flat_map (rows_of_word config) required row of_words.1 in
      let has : Contains (words document.text) found.0 =
      (Contains-has found.0 (words document.text)).1 (each-from_list_all (has_word document.text) required all found.0 ((Contains-has found.0 required).0 found.1)) in
      let then : IsCommitted earlier slice (bit_of_row (words_of_slice opening) slice column row) =
      row-committed limits opening earlier slice column document since before sound is.room in_range in_engine in_slice fits lives found.0 row has
      (subst (λ (k : Config). Contains (rows_of_word k found.0) row) (sym treated) found.2) in
      let bit_is : bit_of_row (words_of_slice opening) slice column row ≡ bit = sym (of_words.2 ∙ ap (λ n. bit_of_row n slice column row) room_is) in
      committed_still limits opening earlier pass token.opened_at legal is.find slice (is.in_use slice of) bit (subst (IsCommitted earlier slice) bit_is then))

  -- where it is left, it has each required word that is exact
  exact_has : at.is_left ≡ true → (word : List ℕ) → is_exact config word ≡ true → Contains required word → Contains (words document.text) word
  exact_has left word exact in_set =
      let row = row_of_word config word 0 in
      let its_row = exact-has_row config word exact in
      read_tells_words limits opening earlier pass token.opened_at slice column word document since legal sound
      (record {
        limits_are = is.limits_are;
        opening_is = is.opening_is;
        find = is.find;
        in_use = is.in_use slice of;
        in_engine = in_engine;
        in_slice = in_slice;
        in_range = in_range;
        fits = fits;
        room = is.room;
        exact = subst (λ (k : Config). is_exact k word ≡ true) (sym treated) exact;
        row = row;
        its_row = subst (λ (k : Config). Contains (rows_of_word k word) row) (sym treated) its_row;
        read = at.required left (bit_of_row (words_of_slice opening) slice column row) (
          row,
          Contains-flat_map (rows_of_word config) required word row in_set its_row,
          ap (λ n. bit_of_row n slice column row) (sym room_is),
        );
      })
      lives

  -- so the rest of them decides
  rest_decides : (rest : List (List ℕ)) → IsRestOf config required rest → at.is_left ≡ true → has_all document.text rest ≡ has_all document.text required
  rest_decides rest is_rest left =
      let text = document.text in
      one_test (has_all text rest) (has_all text required)
      (λ has.
      list_all-from_each (has_word text) required (λ word asked.
      let in_set = (Contains-has word required).1 asked in
      ⊎_elim (λ (in_rest : Contains rest word). each-from_list_all (has_word text) rest has word ((Contains-has word rest).0 in_rest))
      (λ (exact : is_exact config word ≡ true). (Contains-has word (words text)).0 (exact_has left word exact in_set)) (is_rest.others_exact word in_set)))
      (λ all.
      list_all-from_each (has_word text) rest (λ word asked.
      each-from_list_all (has_word text) required all word ((Contains-has word required).0 (is_rest.part word ((Contains-has word rest).1 asked)))))

  -- a document that the search keeps is in one of the lists
  pub found : keeps_text required residue document.text ≡ true → Contains (sure ++ unsure) (slice, column)
  found keeps =
      let both = and_parts (has_all document.text required) (is_kept (all_of residue) document.text) keeps in
      let left = left_by both.0 in
      let may = (read_tells at.may_be at.sure_is (at.asked left)).0 both.1 in
      by_sure left may at.sure_is refl
    where
      by_sure : at.is_left ≡ true → at.may_be ≡ true → (s : Bool) → at.sure_is ≡ s → Contains (sure ++ unsure) (slice, column)
      by_sure left may true is_sure = Contains-append_left sure unsure (slice, column) (at.among_sure.1 (and_from at.is_left at.sure_is left is_sure))
      by_sure left may false not_sure =
          Contains-append_right sure unsure (slice, column)
          (at.among_unsure.1 (and_from at.is_left (at.may_be && not at.sure_is) left (and_from at.may_be (not at.sure_is) may (ap not not_sure))))

  pub sure_decides : (rest : List (List ℕ)) → IsRestOf config required rest → Contains sure (slice, column) → has_all document.text rest ≡ keeps_text required residue document.text
  sure_decides rest is_rest in_sure =
      let both = and_parts at.is_left at.sure_is (at.among_sure.0 in_sure) in
      let kept = (read_tells at.may_be at.sure_is (at.asked both.0)).1 both.1 in
      rest_decides rest is_rest both.0 ∙ sym (and-true (has_all document.text required)) ∙ ap (λ b. has_all document.text required && b) (sym kept)

  pub unsure_decides : (rest : List (List ℕ)) → IsRestOf config required rest → Contains unsure (slice, column) → keeps_text rest residue document.text ≡ keeps_text required residue document.text
  unsure_decides rest is_rest in_unsure =
      let both = and_parts at.is_left (at.may_be && not at.sure_is) (at.among_unsure.0 in_unsure) in
      ap (λ b. b && is_kept (all_of residue) document.text) (rest_decides rest is_rest both.0)

pub miss_none : ScansMissNone
miss_none limits opening config earlier pass token required residue sure unsure legal sound is scanned slice column document since of lives keeps =
    found limits opening config earlier pass token required residue sure unsure legal sound is scanned slice column document since lives of keeps

pub tell_texts : ScansTellTexts
tell_texts limits opening config earlier pass token required rest residue sure unsure slice column document since legal sound is scanned is_rest lives = (
  λ in_sure.
      sure_decides limits opening config earlier pass token required residue sure unsure legal sound is scanned slice column document since lives
      (scanned.of_token (slice, column) (Contains-append_left sure unsure (slice, column) in_sure)).slice rest is_rest in_sure,
  λ in_unsure.
      unsure_decides limits opening config earlier pass token required residue sure unsure legal sound is scanned slice column document since lives
      (scanned.of_token (slice, column) (Contains-append_right sure unsure (slice, column) in_unsure)).slice rest is_rest in_unsure,
)
