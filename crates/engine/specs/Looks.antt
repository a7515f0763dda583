-- What a find finds of the candidates of scanned slices.
use Rattle.std.specs.Prelude.{◌≡◌, ℕ, List, ◌++◌}
use Rattle.commit_desk.specs.Judging.{AreGivenWhere}
use Rattle.commit_desk.specs.Scans.{keeps_text}
use Rattle.engine.specs.Searches.{residue_of}
use Rattle.engine.specs.declared.scanning.Scanned.{Scanned}
use Rattle.funnel_model.specs.Searches.{has_all}
use Rattle.funnel_model.specs.Tokens.{HasToken}
use Rattle.funnel_model.specs.declared.claim.Token.{Token}
use Rattle.plan_rows.specs.Rests.{words_of_rest}
use Rattle.slice_rule.specs.Seats.{PassState}

-- the words that are left to look for
abbrev pub rest_of : Scanned → List (List ℕ)
rest_of scanned = words_of_rest scanned.search.now.words scanned.rest

-- The candidates were looked at by the history before the find: what those give where the search is sure, by the rest of the words, and then
-- those where it is unsure, by these and by what else is asked, comes after what was found before.
pub record FindsBoth (scanned : Scanned) (pass : PassState) (token : Token) (before after : List (ℕ × ℕ)) : Type 0 where
  pub given : (begun : HasToken pass.front pass.number token.opened_at) → (sure opened : List (ℕ × ℕ))
      × AreGivenWhere begun.earlier (λ text. has_all text (rest_of scanned)) scanned.hits.sure sure
      × AreGivenWhere begun.earlier (keeps_text (rest_of scanned) (residue_of scanned.search.now)) scanned.hits.unsure opened
      × (after ≡ before ++ (sure ++ opened))
