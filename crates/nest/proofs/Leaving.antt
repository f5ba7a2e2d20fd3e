-- Which subscript leaves its array, object by object, item by item and loop by loop.
use Rattle.std.specs.Prelude.{ℕ, suc, ◌+◌, ◌≡◌, ◌<◌, ◌⊎◌, ◌↔◌, List, [], ◌∷◌, length, get_or, drop, map, Option, Some, None}
use Rattle.std.specs.Option.{option_or}
use Rattle.std.proofs.Common.{add-one, drop-cons, inl, inr, refl, sym, ap, ◌∙◌, subst, arith}
use Rattle.semantics.specs.Tree
use Rattle.ktree.specs.View.{exprs_of, items_of, with_item, part_of}
use Rattle.ktree.specs.declared.place.Place.{Place}
use Rattle.ktree.specs.declared.expression.Expr.{Expr}
use Rattle.ktree.specs.declared.statement.PrintPart.{PrintPart}
use Rattle.ktree.specs.declared.statement.PrintPart.TheVariants.{Characters, Decimal}
use Rattle.ktree.specs.declared.statement.Item.{Item, Directive, Local, Statement'}
use Rattle.ktree.proofs.Trees.{next_item}
use Rattle.affine.specs.declared.interval.Side.{Side}
use Rattle.nest.specs.Nests.{Asked, AllStay, PartsHave, Have}
use Rattle.nest.specs.Leaves.{SomeLeaves, PartsMeet, Meet}
use Rattle.nest.specs.Judged.{Tells}
use Rattle.nest.proofs.Walks.{item_cut}

-- no dimension, no subscript
pub no_subscripts : (box : List Side) (ns : List ℕ) (es : List Expr) → length ns ≡ 0 → length ns ≡ length es → Tells (AllStay box ns (exprs_of es)) (SomeLeaves box ns (exprs_of es)) None
no_subscripts box [] [] e f = tt
no_subscripts box [] (x ∷ es) e f = absurd (omega (arith, e, f))
no_subscripts box (n ∷ ns) es e f = absurd (omega (arith, e))

-- not as many subscripts as dimensions
pub not_as_many : (box : List Side) (ns : List ℕ) (es : List Expr) → (length ns ≡ length es → ⊥) → SomeLeaves box ns (exprs_of es)
not_as_many box [] [] f = absurd (f refl)
not_as_many box [] (x ∷ es) f = tt
not_as_many box (n ∷ ns) [] f = tt
not_as_many box (n ∷ ns) (x ∷ es) f = inr (not_as_many box ns es (λ e. f (ap suc e)))

-- an item, and the others
pub meet_cut : (Q : Asked) (box : List Side) (i : Item) (rest : Tree.Items) → Meet Q box (with_item i Tree.no_items) ⊎ Meet Q box rest → Meet Q box (with_item i rest)
meet_cut Q box (Directive place) rest (inl h) = absurd h
meet_cut Q box (Directive place) rest (inr h) = h
meet_cut Q box (Local l) rest (inl (inl h)) = inl h
meet_cut Q box (Local l) rest (inl (inr h)) = absurd h
meet_cut Q box (Local l) rest (inr h) = inr h
meet_cut Q box (Statement' p s) rest (inl (inl h)) = inl h
meet_cut Q box (Statement' p s) rest (inl (inr h)) = absurd h
meet_cut Q box (Statement' p s) rest (inr h) = inr h

-- what is told of the items so far, and what those that are left have to do with all
abbrev pub ToldSoFar : Asked → Asked → List Side → List Item → ℕ → Option Place → Type 0
ToldSoFar P Q box is i told =
    (Meet Q box (items_of (drop i is)) → Meet Q box (items_of is)) × Tells (Have P box (items_of (drop i is)) → Have P box (items_of is)) (Meet Q box (items_of is)) told

pub told_more : (P Q : Asked) (box : List Side) (is : List Item) (i : ℕ) (e : Item) (told own : Option Place) → i < length is → e ≡ get_or is i e → ToldSoFar P Q box is i told
    → Tells (Have P box (with_item e Tree.no_items)) (Meet Q box (with_item e Tree.no_items)) own → ToldSoFar P Q box is (i + 1) (option_or told own)
told_more P Q box is i e told own lt p (left, so_far) here = (λ h. up (inr h), go told own so_far here)
  where
    rest : Tree.Items
    rest = items_of (drop (i + 1) is)

    up : Meet Q box (with_item e Tree.no_items) ⊎ Meet Q box rest → Meet Q box (items_of is)
    up h = left (subst (Meet Q box) (sym (next_item is i e lt p)) (meet_cut Q box e rest h))

    go : (told own : Option Place) → Tells (Have P box (items_of (drop i is)) → Have P box (items_of is)) (Meet Q box (items_of is)) told
        → Tells (Have P box (with_item e Tree.no_items)) (Meet Q box (with_item e Tree.no_items)) own → Tells (Have P box rest → Have P box (items_of is)) (Meet Q box (items_of is)) (option_or told own)
    go None None f h = λ k. f (subst (Have P box) (sym (next_item is i e lt p)) ((item_cut P box e rest).1 (h, k)))
    go None (Some x) f h = up (inl h)
    go (Some x) own f h = f

-- the same of printf's arguments
pub part_cut : (P : Asked) (box : List Side) (p : PrintPart) (rest : List Tree.PrintPart) → PartsHave P box (part_of p ∷ rest) ↔ PartsHave P box (part_of p ∷ []) × PartsHave P box rest
part_cut P box (Characters bs) rest = (λ h. (tt, h), λ h. h.1)
part_cut P box (Decimal e) rest = (λ h. ((h.0, tt), h.1), λ h. (h.0.0, h.1))

part_meets : (Q : Asked) (box : List Side) (p : PrintPart) (rest : List Tree.PrintPart) → PartsMeet Q box (part_of p ∷ []) ⊎ PartsMeet Q box rest → PartsMeet Q box (part_of p ∷ rest)
part_meets Q box (Characters bs) rest (inl h) = absurd h
part_meets Q box (Characters bs) rest (inr h) = h
part_meets Q box (Decimal e) rest (inl (inl h)) = inl h
part_meets Q box (Decimal e) rest (inl (inr h)) = absurd h
part_meets Q box (Decimal e) rest (inr h) = inr h

pub next_part : (ps : List PrintPart) (i : ℕ) (p : PrintPart) → i < length ps → p ≡ get_or ps i p → map part_of (drop i ps) ≡ part_of p ∷ map part_of (drop (i + 1) ps)
next_part ps i p lt e =
    let here : drop i ps ≡ p ∷ drop (i + 1) ps = rw add-one (drop-cons ps i p lt ∙ ap (λ x. x ∷ drop (suc i) ps) (sym e)) in
    ap (map part_of) here

abbrev pub PartsSoFar : Asked → Asked → List Side → List PrintPart → ℕ → Option Place → Type 0
PartsSoFar P Q box ps i told =
    (PartsMeet Q box (map part_of (drop i ps)) → PartsMeet Q box (map part_of ps))
    × Tells (PartsHave P box (map part_of (drop i ps)) → PartsHave P box (map part_of ps)) (PartsMeet Q box (map part_of ps)) told

pub parts_more : (P Q : Asked) (box : List Side) (ps : List PrintPart) (i : ℕ) (p : PrintPart) (told own : Option Place) → i < length ps → p ≡ get_or ps i p → PartsSoFar P Q box ps i told
    → Tells (PartsHave P box (part_of p ∷ [])) (PartsMeet Q box (part_of p ∷ [])) own → PartsSoFar P Q box ps (i + 1) (option_or told own)
parts_more P Q box ps i p told own lt e (left, so_far) here = (λ h. up (inr h), go told own so_far here)
  where
    rest : List Tree.PrintPart
    rest = map part_of (drop (i + 1) ps)

    up : PartsMeet Q box (part_of p ∷ []) ⊎ PartsMeet Q box rest → PartsMeet Q box (map part_of ps)
    up h = left (subst (PartsMeet Q box) (sym (next_part ps i p lt e)) (part_meets Q box p rest h))

    go : (told own : Option Place) → Tells (PartsHave P box (map part_of (drop i ps)) → PartsHave P box (map part_of ps)) (PartsMeet Q box (map part_of ps)) told
        → Tells (PartsHave P box (part_of p ∷ [])) (PartsMeet Q box (part_of p ∷ [])) own
        → Tells (PartsHave P box rest → PartsHave P box (map part_of ps)) (PartsMeet Q box (map part_of ps)) (option_or told own)
    go None None f h = λ k. f (subst (PartsHave P box) (sym (next_part ps i p lt e)) ((part_cut P box p rest).1 (h, k)))
    go None (Some x) f h = up (inl h)
    go (Some x) own f h = f
