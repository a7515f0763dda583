-- The route of a target that is text, and of another.
use Rattle.std.proofs.Common.{◌≡◌, ℕ, List, Bool, true, false, Option, Some, None, MatchOption, refl, sym, ap, ◌∙◌}
use Rattle.std.specs.Str.{IsUtf8, is_utf8}
use Rattle.std.proofs.lemmas.Str.{IsUtf8-from_is_utf8, is_utf8-from_IsUtf8}
use Rattle.http_front.specs.Routes.{route_of, route_of_text, route_seen}
use Rattle.http_front.specs.declared.routing.Route.{Route as Parsed}

by_test : (method target : List ℕ) (b : Bool) → is_utf8 target ≡ b → ¬ (IsUtf8 target) → route_of method target ≡ None
unfolding route_of
by_test method target true is other = absurd (other (IsUtf8-from_is_utf8 target is))
by_test method target false is other = rw is refl

pub no_text : (method target : List ℕ) → ¬ (IsUtf8 target) → route_of method target ≡ None
no_text method target other = by_test method target (is_utf8 target) refl other

of_text : (method target : List ℕ) → IsUtf8 target → route_of method target ≡ route_of_text method target
unfolding route_of
of_text method target text = rw (is_utf8-from_IsUtf8 target text) refl

-- what was parsed of the text is the route
pub parsed : (method target text : List ℕ) (r : Option Parsed) → text ≡ target → IsUtf8 target
    → MatchOption r (route_of_text method text ≡ None) (λ route. route_of_text method text ≡ Some (route_seen route))
    → MatchOption r (route_of method target ≡ None) (λ route. route_of method target ≡ Some (route_seen route))
parsed method target text None is utf8 none = of_text method target utf8 ∙ ap (route_of_text method) (sym is) ∙ none
parsed method target text (Some route) is utf8 found = of_text method target utf8 ∙ ap (route_of_text method) (sym is) ∙ found
