-- Variables that are found by a map of their names.
use Rattle.std.specs.Prelude.{ℕ, zero, suc, Bool, true, false, ◌≡◌, ◌+◌, if◌then◌else◌, cond, List, [], ◌∷◌, ◌++◌, length, map, Option, Some, None, option_map, slice_get, string_bytes, bytes_eq}
use Rattle.std.specs.BTreeMap.{BTreeMap, get_by, is_at, UpdatesBy}
use Rattle.std.specs.Map.{lookup}
use Rattle.std.specs.Cmp.Lexicographic.{slice_cmp, same_text}
use Rattle.std.specs.Ordering.{nat_cmp}
use denote.Ref.{Bor}
use Rattle.std.proofs.Common.{refl, sym, ap, ◌∙◌, arith, append_assoc, append-nil, length-append, get_or}
use Rattle.std.proofs.lemmas.Map.Text.{btree_map_updates_str}
use Rattle.semantics.specs.Tree as Tree
use Rattle.semantics.specs.Source.Scope.{same_name}
use Rattle.semantics.specs.Meaning.Places.{size}
use Rattle.semantics.specs.Meaning.InputFault.{declared_from}
use Rattle.ktree.specs.declared.statement.Declaration.{Declaration}
use Rattle.ktree.specs.View.{declaration_of}
use Rattle.seqrun_io.specs.Reading.{ArePlaces}

-- what a map has at a name
abbrev at_name : BTreeMap (Bor (List ℕ)) ℕ → List ℕ → Option ℕ
at_name places name = get_by (λ k. slice_cmp nat_cmp name k.now) places

-- the variable of a declaration that was found
abbrev variable_of : Option (ℕ × ℕ) → Option ℕ
variable_of found = option_map (λ found. found.0) found

-- what is known with these declarations left, the others put down from the last
pub record Placing (ds rest : List Declaration) (places : BTreeMap (Bor (List ℕ)) ℕ) : Type 0 where
  pub behind : List Declaration
  pub whole : ds ≡ rest ++ behind
  pub placed : (name : List ℕ) → at_name places name ≡ variable_of (declared_from (length rest) (map declaration_of behind) name)

pub none_placed : (ds : List Declaration) (places : BTreeMap (Bor (List ℕ)) ℕ) → places.entries ≡ [] → Placing ds ds places
none_placed ds places e = record {
  behind = [];
  whole = sym (append-nil ds);
  placed = λ name. ap (lookup (is_at (λ k. slice_cmp nat_cmp name k.now))) e;
}

pub one_placed : (ds rest front : List Declaration) (d : Declaration) (key : Bor (List ℕ)) (old new : BTreeMap (Bor (List ℕ)) ℕ) → rest ≡ front ++ d ∷ [] → key.now ≡ string_bytes d.name
    → UpdatesBy (λ x y. slice_cmp nat_cmp x.now y.now) (λ k. slice_cmp nat_cmp key.now k.now) old new (Some (length front)) → Placing ds rest old → Placing ds front new
one_placed ds rest front d key old new cut named updates p = record {
  behind = d ∷ p.behind;
  whole = p.whole ∙ ap (λ l. l ++ p.behind) cut ∙ append_assoc front (d ∷ []) p.behind;
  placed = λ name.
      btree_map_updates_str key.now old new (Some (length front)) updates name
      ∙ ap (λ w. cond (bytes_eq w name) (Some (length front)) (at_name old name)) named
      ∙ ap (cond (same_name (string_bytes d.name) name) (Some (length front))) (p.placed name ∙ ap (λ n. variable_of (declared_from n (map declaration_of p.behind) name)) long)
      ∙ by_name name (same_name (string_bytes d.name) name);
}
  where
    long : length rest ≡ suc (length front)
    long = ap length cut ∙ (let e = length-append front (d ∷ []) in omega (arith, e))

    by_name : (name : List ℕ) (t : Bool) → cond t (Some (length front)) (variable_of (declared_from (suc (length front)) (map declaration_of p.behind) name))
        ≡ variable_of (if t then Some (length front, size d.lengths.items) else declared_from (suc (length front)) (map declaration_of p.behind) name)
    by_name name true = refl
    by_name name false = refl

pub all_placed : (ds rest : List Declaration) (places : BTreeMap (Bor (List ℕ)) ℕ) → length rest ≡ 0 → Placing ds rest places → ArePlaces (map declaration_of ds) places
all_placed ds [] places e p = λ name. p.placed name ∙ ap (λ l. variable_of (declared_from 0 (map declaration_of l) name)) (sym p.whole)
all_placed ds (d ∷ rest) places e p = absurd (omega arith)

-- a declaration that was found, with its place among these
record Standing (x : ℕ) (ds : List Tree.Declaration) (name : List ℕ) (found : ℕ × ℕ) : Type 0 where
  pub place : ℕ
  pub declaration : Tree.Declaration
  pub is : found.0 ≡ x + place
  pub at : slice_get ds place ≡ Some declaration
  pub named : declaration.name ≡ name
  pub sized : found.1 ≡ size declaration.lengths

standing : (x : ℕ) (ds : List Tree.Declaration) (name : List ℕ) (found : ℕ × ℕ) → declared_from x ds name ≡ Some found → Standing x ds name found
standing x [] name found e = absurd (cc e)
standing x (d ∷ ds) name found e = by_name (same_name d.name name) refl e (standing (suc x) ds name found)
  where
    by_name : (t : Bool) → same_name d.name name ≡ t → (if t then Some (x, size d.lengths) else declared_from (suc x) ds name) ≡ Some found
        → (declared_from (suc x) ds name ≡ Some found → Standing (suc x) ds name found) → Standing x (d ∷ ds) name found
    by_name true same e further =
        let here : (x, size d.lengths) ≡ found = cc in
        record {
          place = 0;
          declaration = d;
          is = ap (λ p. p.0) (sym here) ∙ (let z : x ≡ x + 0 = omega arith in z);
          at = refl;
          named = same_text d.name name (sym same);
          sized = ap (λ p. p.1) (sym here);
        }
    by_name false other e further =
        let s = further e in
        record {
          place = suc s.place;
          declaration = s.declaration;
          is = s.is ∙ (let z : suc x + s.place ≡ x + suc s.place = omega arith in z);
          at = s.at;
          named = s.named;
          sized = s.sized;
        }

-- the first declaration of this name
pub record IsFound (ds : List Tree.Declaration) (name : List ℕ) (x : ℕ) : Type 0 where
  pub declaration : Tree.Declaration
  pub at : slice_get ds x ≡ Some declaration
  pub named : declaration.name ≡ name
  pub first : declared_from 0 ds name ≡ Some (x, size declaration.lengths)

module _ (ds : List Tree.Declaration) (places : BTreeMap (Bor (List ℕ)) ℕ) (name : List ℕ) (are : ArePlaces ds places) where
  pub not_found : None ≡ at_name places name → declared_from 0 ds name ≡ None
  not_found e = go (declared_from 0 ds name) (e ∙ are name)
    where
      go : (o : Option (ℕ × ℕ)) → None ≡ variable_of o → o ≡ None
      go None f = refl
      go (Some found) f = absurd (cc f)

  pub found : (x : ℕ) → Some x ≡ at_name places name → IsFound ds name x
  found x e = go (declared_from 0 ds name) refl (e ∙ are name)
    where
      go : (o : Option (ℕ × ℕ)) → declared_from 0 ds name ≡ o → Some x ≡ variable_of o → IsFound ds name x
      go None f g = absurd (cc g)
      go (Some found) f g =
          let s = standing 0 ds name found f in
          let same : x ≡ found.0 = cc in
          let place : s.place ≡ x = (let is = s.is in omega arith) in
          record {
            declaration = s.declaration;
            at = ap (slice_get ds) (sym place) ∙ s.at;
            named = s.named;
            first = f ∙ ap (λ n. Some (n, found.1)) (sym same) ∙ ap (λ n. Some (x, n)) s.sized;
          }

-- a variable's lengths by its place
pub lengths_at : (ds : List Declaration) (x : ℕ) (d : Tree.Declaration) (c : Declaration) → slice_get (map declaration_of ds) x ≡ Some d → (get_or ds x c).lengths.items ≡ d.lengths
lengths_at [] x d c e = absurd (cc e)
lengths_at (a ∷ ds) zero d c e = let same : declaration_of a ≡ d = cc in ap (λ d. d.lengths) same
lengths_at (a ∷ ds) (suc x) d c e = lengths_at ds x d c e
