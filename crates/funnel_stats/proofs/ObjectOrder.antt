-- The objects of JSON values that were read have their names in byte order.
use Rattle.std.proofs.Common.{◌≡◌, ◌∙◌, ℕ, Bool, true, false, List, [], ◌∷◌, map, Option, Some, None, IfSome, option_map, option_and_then, codes, if◌then◌else◌, refl, ap, subst}
use Rattle.std.proofs.lemmas.Cmp.{nat_list_cmp_total}
use Rattle.std.specs.Cmp.Lexicographic.{slice_cmp}
use Rattle.std.specs.List.{AllByRecursion}
use Rattle.std.specs.List.Sorted.{IsStrictlySortedBy}
use Rattle.std.specs.Option.{option_map_or}
use Rattle.std.specs.Ordering.{nat_cmp, match_ordering, ordering_reverse}
use Rattle.std.specs.Str.{is_utf8}
use Rattle.std.specs.declared.cmp.Ordering.{Ordering}
use Rattle.std.specs.declared.cmp.Ordering.TheVariants.{Less, Equal, Greater}
use Rattle.json.specs.Json as json
use Rattle.json.specs.Lex.{tokens}
use Rattle.serde_json.specs.Data.{Num, Data, null, boolean, number, string, array, object, Items, Members, no_members, member, put}
use Rattle.serde_json.specs.Find.{as_object, get_member}
use Rattle.serde_json.specs.Read.{number_of, of_json, of_items, of_members, max_depth, read}
use Rattle.funnel_stats.specs.Configurations.{object_of}
use Rattle.funnel_stats.specs.Laws.{IsInNameOrder}
use Rattle.funnel_stats.specs.Values.{entries, listed_at}

-- a name is below all of these
abbrev pub IsBelow : List ℕ → Members → Type 0
IsBelow name no_members = Unit {0}
IsBelow name (member other value others) = (slice_cmp nat_cmp name other ≡ Less) × IsBelow name others

-- the names of an object rise, and so do those of each object among its values
abbrev mutual
  pub IsOrdered : Data → Type 0
  IsOrdered null = Unit {0}
  IsOrdered (boolean b) = Unit {0}
  IsOrdered (number n) = Unit {0}
  IsOrdered (string s) = Unit {0}
  IsOrdered (array items) = Unit {0}
  IsOrdered (object members) = AreOrdered members

  pub AreOrdered : Members → Type 0
  AreOrdered no_members = Unit {0}
  AreOrdered (member name value others) = IsBelow name others × IsOrdered value × AreOrdered others

-- a name below another is below all that the other is below
below_more : (a b : List ℕ) (members : Members) → slice_cmp nat_cmp a b ≡ Less → IsBelow b members → IsBelow a members
below_more a b no_members below all = tt
below_more a b (member name value others) below all =
    (nat_list_cmp_total.trans a b name below all.0, below_more a b others below all.1)

-- what is put keeps a name below all, if it is below what is put
below_at : (a : List ℕ) (o : Ordering) (x y z : Members) → IsBelow a x → IsBelow a y → IsBelow a z → IsBelow a (match_ordering o x y z)
below_at a Less x y z p q r = p
below_at a Equal x y z p q r = q
below_at a Greater x y z p q r = r

below_put : (a name : List ℕ) (value : Data) (members : Members) → slice_cmp nat_cmp a name ≡ Less → IsBelow a members → IsBelow a (put name value members)
below_put a name value no_members below all = (below, tt)
below_put a name value (member other had others) below all =
    below_at a (slice_cmp nat_cmp name other) (member name value (member other had others)) (member other value others) (member other had (put name value others))
    (below, all) all (all.0, below_put a name value others below all.1)

-- what is put keeps the order
ordered_at : (name other : List ℕ) (value had : Data) (others : Members) (o : Ordering) → slice_cmp nat_cmp name other ≡ o
    → IsOrdered value → AreOrdered (member other had others) → AreOrdered (put name value others)
    → AreOrdered (match_ordering o (member name value (member other had others)) (member other value others) (member other had (put name value others)))
ordered_at name other value had others Less is new old later =
    ((is, below_more name other others is old.0), new, old)
ordered_at name other value had others Equal is new old later = (old.0, new, old.2)
ordered_at name other value had others Greater is new old later =
    (below_put other name value others (nat_list_cmp_total.antisymm other name ∙ ap ordering_reverse is) old.0, old.1, later)

ordered_put : (name : List ℕ) (value : Data) (members : Members) → IsOrdered value → AreOrdered members → AreOrdered (put name value members)
ordered_put name value no_members new old = (tt, new, tt)
ordered_put name value (member other had others) new old =
    ordered_at name other value had others (slice_cmp nat_cmp name other) refl new old (ordered_put name value others new old.2)

-- values without names
ordered_number : (n : Option Num) → IfSome (option_map number n) IsOrdered
ordered_number None = tt
ordered_number (Some n) = tt

ordered_array : (items : Option Items) → IfSome (option_map array items) IsOrdered
ordered_array None = tt
ordered_array (Some items) = tt

ordered_object : (members : Option Members) → IfSome members AreOrdered → IfSome (option_map object members) IsOrdered
ordered_object None ordered = tt
ordered_object (Some found) ordered = ordered

ordered_next : (value : Option Data) (next : Data → Option Members) → IfSome value IsOrdered → ((d : Data) → IsOrdered d → IfSome (next d) AreOrdered)
    → IfSome (option_and_then next value) AreOrdered
ordered_next None next ordered later = tt
ordered_next (Some value) next ordered later = later value ordered

-- values that were read
mutual
  ordered-of_json : (j : json.Json) → IfSome (of_json j) IsOrdered
  ordered-of_json json.null = tt
  ordered-of_json (json.boolean b) = tt
  ordered-of_json (json.number s) = ordered_number (number_of s)
  ordered-of_json (json.string s) = tt
  ordered-of_json (json.array js) = ordered_array (of_items js)
  ordered-of_json (json.object ms) = ordered_object (of_members ms no_members) (ordered-of_members ms no_members tt)

  ordered-of_members : (ms : json.Members) (found : Members) → AreOrdered found → IfSome (of_members ms found) AreOrdered
  ordered-of_members json.no_members found ordered = ordered
  ordered-of_members (json.member name j ms) found ordered =
      ordered_next (of_json j) (λ d. of_members ms (put name d found)) (ordered-of_json j)
      (λ d new. ordered-of_members ms (put name d found) (ordered_put name d found new ordered))

-- the object of bytes
ordered_as_object : (d : Data) (members : Members) → as_object d ≡ Some members → IsOrdered d → AreOrdered members
ordered_as_object null members is ordered = absurd (let e : None ≡ Some members = is in cc)
ordered_as_object (boolean b) members is ordered = absurd (let e : None ≡ Some members = is in cc)
ordered_as_object (number n) members is ordered = absurd (let e : None ≡ Some members = is in cc)
ordered_as_object (string s) members is ordered = absurd (let e : None ≡ Some members = is in cc)
ordered_as_object (array items) members is ordered = absurd (let e : None ≡ Some members = is in cc)
ordered_as_object (object found) members is ordered = let e : found ≡ members = (let e : Some found ≡ Some members = is in cc) in subst AreOrdered e ordered

ordered_value : (value : Option Data) (members : Members) → IfSome value IsOrdered → option_and_then as_object value ≡ Some members → AreOrdered members
ordered_value None members ordered is = absurd (let e : None ≡ Some members = is in cc)
ordered_value (Some d) members ordered is = ordered_as_object d members is ordered

ordered_read : (j : Option json.Json) → IfSome (option_and_then of_json j) IsOrdered
ordered_read None = tt
ordered_read (Some j) = ordered-of_json j

ordered_text : (text : List ℕ) (utf8 : Bool) (members : Members)
    → (if utf8 then option_and_then as_object (read text) else None) ≡ Some members → AreOrdered members
ordered_text text true members is = ordered_value (read text) members (ordered_read (option_and_then (λ p. json.if_last p.0 p.1) (json.value max_depth (tokens text)))) is
ordered_text text false members is = absurd (let e : None ≡ Some members = is in cc)

pub ordered-object_of : (bytes : List ℕ) (members : Members) → object_of bytes ≡ Some members → AreOrdered members
unfolding object_of
ordered-object_of [] members is = let e : no_members ≡ members = (let e : Some no_members ≡ Some members = is in cc) in subst AreOrdered e tt
ordered-object_of (byte ∷ bytes) members is = ordered_text (byte ∷ bytes) (is_utf8 (byte ∷ bytes)) members is

-- entries in order
below_entries : (name : List ℕ) (members : Members) → IsBelow name members
    → AllByRecursion (λ other. slice_cmp nat_cmp name other ≡ Less) (map (λ entry. entry.0) (entries members))
below_entries name no_members below = tt
below_entries name (member other value others) below = (below.0, below_entries name others below.1)

pub IsInNameOrder-entries : (members : Members) → AreOrdered members → IsInNameOrder (entries members)
unfolding IsStrictlySortedBy
IsInNameOrder-entries no_members ordered = tt
IsInNameOrder-entries (member name value others) ordered = (below_entries name others ordered.0, IsInNameOrder-entries others ordered.2)

-- the value at a name
ordered_found : (o : Ordering) (value : Data) (later : Option Data) → IsOrdered value → IfSome later IsOrdered → IfSome (match_ordering o later (Some value) later) IsOrdered
ordered_found Less value later here rest = rest
ordered_found Equal value later here rest = here
ordered_found Greater value later here rest = rest

ordered-get_member : (name : List ℕ) (members : Members) → AreOrdered members → IfSome (get_member name members) IsOrdered
ordered-get_member name no_members ordered = tt
ordered-get_member name (member other value others) ordered =
    ordered_found (slice_cmp nat_cmp name other) value (get_member name others) ordered.1 (ordered-get_member name others ordered.2)

in_order_listed : (listed : Option Members) → ((members : Members) → listed ≡ Some members → AreOrdered members) → IsInNameOrder (option_map_or entries listed [])
unfolding IsStrictlySortedBy
in_order_listed None ordered = tt
in_order_listed (Some members) ordered = IsInNameOrder-entries members (ordered members refl)

pub IsInNameOrder-listed : (members : Members) → AreOrdered members → IsInNameOrder (listed_at members)
IsInNameOrder-listed members ordered =
    in_order_listed _ (λ listed is. ordered_value _ listed (ordered-get_member (codes "words") members ordered) is)
