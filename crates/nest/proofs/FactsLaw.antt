-- The facts of loops: put behind others, and met again in the same order.
use Rattle.std.specs.Prelude.{ℕ, zero, suc, ◌+◌, ◌≤◌, ◌≡◌, ◌<◌, List, [], ◌∷◌, ◌++◌, length, get_or, drop, Option, Some, None, option_and_then}
use Rattle.std.proofs.Common.{refl, sym, ap, ◌∙◌, subst, arith}
use Rattle.std.proofs.lemmas.List.{append_assoc, append-nil}
use Rattle.semantics.specs.Tree
use Rattle.semantics.specs.Meaning.Value.{map_option}
use Rattle.semantics.specs.Loops.Nest.{Loop, as_loop, nest_of}
use Rattle.ktree.specs.View.{items_of, with_item}
use Rattle.ktree.specs.declared.statement.Head.{Head}
use Rattle.ktree.specs.declared.statement.Item.{Item, Directive, Local, Statement'}
use Rattle.ktree.proofs.Trees.{next_item}
use Rattle.affine.specs.declared.interval.Side.{Side}
use Rattle.nest_loop.specs.declared.entered.LoopFacts.{LoopFacts}
use Rattle.nest_loop.specs.Loops.{inside}
use Rattle.nest_loop.specs.Facts.{FactsOf, FactsAmong}
use Rattle.nest_loop.proofs.Standing.{FirstFacts, first_or, first_facts}
use Rattle.nest.specs.Facts.{HasFacts, Pushes, product_of}
use Rattle.nest.specs.Judged.{Entered, EntersLoop}
use Rattle.nest.specs.Perfect.{NestHas, HasProduct}
use Rattle.nest.proofs.PerfectLaw.{product_once}

-- a loop's, and then those of its body
pub entered : (box after : List Side) (found more : List LoopFacts) (head : Head) (body : Tree.Stmt) → EntersLoop box after found more head body → Entered box after head body
entered box after found more head body e = (e.facts.canonical, e.facts.numbers, e.are.loop, e.inside)

-- an item's, and those of the others
pub facts_joined : (box : List Side) (i : Item) (items : Tree.Items) (a b c : List LoopFacts) → FactsAmong box (with_item i Tree.no_items) a b → FactsAmong box items b c
    → FactsAmong box (with_item i items) a c
facts_joined box (Directive place) items a b c e h = subst (λ (x : List LoopFacts). FactsAmong box items x c) (sym e) h
facts_joined box (Local l) items a b c e h = subst (λ (x : List LoopFacts). FactsAmong box items x c) (sym e) h
facts_joined box (Statement' p s) items a b c (m, f, e) h = (m, f, subst (λ (x : List LoopFacts). FactsAmong box items x c) (sym e) h)

-- what was put for the items so far stands in front of what those that are left put
abbrev pub PutSoFar : List Side → List Item → ℕ → List LoopFacts → List LoopFacts → Type 0
PutSoFar box is i before now =
    (done : List LoopFacts) × (now ≡ before ++ done)
    × ((middle rest : List LoopFacts) → FactsAmong box (items_of (drop i is)) middle rest → FactsAmong box (items_of is) (done ++ middle) rest)

pub put_none : (box : List Side) (is : List Item) (before : List LoopFacts) → PutSoFar box is 0 before before
put_none box is before = ([], sym (append-nil before), λ middle rest h. h)

pub put_more : (box : List Side) (is : List Item) (i : ℕ) (e : Item) (before now after : List LoopFacts) → i < length is → e ≡ get_or is i e → PutSoFar box is i before now
    → Pushes (FactsAmong box (with_item e Tree.no_items)) now after → PutSoFar box is (i + 1) before after
put_more box is i e before now after lt p (done, q, f) (m, g, h) = (
  done ++ m,
  g ∙ ap (λ (x : List LoopFacts). x ++ m) q ∙ append_assoc before done m,
  λ middle rest k. subst (λ (x : List LoopFacts). FactsAmong box (items_of is) x rest) (sym (append_assoc done m middle))
      (f (m ++ middle) rest
      (subst (λ (x : Tree.Items). FactsAmong box x (m ++ middle) rest) (sym (next_item is i e lt p))
      (facts_joined box e (items_of (drop (i + 1) is)) (m ++ middle) middle rest (h middle) k))),
)

pub put_all : (box : List Side) (is : List Item) (i : ℕ) (before now : List LoopFacts) → drop i is ≡ [] → PutSoFar box is i before now → Pushes (FactsAmong box (items_of is)) before now
put_all box is i before now e (done, q, f) =
    (done, q, λ rest. f rest rest (subst (λ (xs : List Item). FactsAmong box (items_of xs) rest rest) (sym e) (λ k. rest)))

-- the first facts of a nest are those of its loops, and their greatest counts make its product
abbrev pub ProductIs : ℕ → Type 0
ProductIs n =
    (box : List Side) (s : Tree.Stmt) (hs : List Loop) (t : Tree.Stmt) (facts rest : List LoopFacts) → nest_of n s ≡ Some (hs, t) → FactsOf box s facts rest
    → (n ≤ length facts) × HasProduct box hs (product_of n facts)

abbrev with_first : Loop → List Loop × Tree.Stmt → List Loop × Tree.Stmt
with_first h inner = (h ∷ inner.0, inner.1)

first_product : (n : ℕ) → ProductIs n → ProductIs (suc n)
first_product n is box s hs t facts rest e k = by (as_loop s) refl e
  where
    made : (h : Loop) (b : Tree.Stmt) (ls : List Loop) (first : FirstFacts box h b facts rest) → (n ≤ length first.more) × HasProduct (inside box h.variable first.own.numbers) ls (product_of n first.more)
        → (suc n ≤ length facts) × HasProduct box (h ∷ ls) (product_of (suc n) facts)
    made h b ls first inner =
        subst (λ (xs : List LoopFacts). (suc n ≤ length xs) × HasProduct box (h ∷ ls) (product_of (suc n) xs)) (sym first.is) (
          let few = inner.0 in omega (arith, few),
          (
            first.own.numbers,
            first.own.trip_count,
            product_of n first.more,
            record { loop = first.own.canonical; form = first.are.loop.form; stays = first.are.loop.stays; numbers = first.are.loop.numbers; most = first.are.most },
            inner.1,
            refl,
          ),
        )

    within : (h : Loop) (b : Tree.Stmt) → as_loop s ≡ Some (h, b) → (o : Option (List Loop × Tree.Stmt)) → nest_of n b ≡ o → map_option (with_first h) o ≡ Some (hs, t)
        → (suc n ≤ length facts) × HasProduct box hs (product_of (suc n) facts)
    within h b f None p q = absurd (cc q)
    within h b f (Some (ls, u)) p q =
        let first = first_facts box s h b facts rest f k in
        let same : h ∷ ls ≡ hs = ap (first_or hs) q in
        subst (λ (xs : List Loop). (suc n ≤ length facts) × HasProduct box xs (product_of (suc n) facts)) same
        (made h b ls first (is (inside box h.variable first.own.numbers) b ls u first.more rest p first.inner))

    by : (o : Option (Loop × Tree.Stmt)) → as_loop s ≡ o → option_and_then (λ found. map_option (with_first found.0) (nest_of n found.1)) o ≡ Some (hs, t)
        → (suc n ≤ length facts) × HasProduct box hs (product_of (suc n) facts)
    by None f g = absurd (cc g)
    by (Some (h, b)) f g = within h b f (nest_of n b) refl g

pub nest_product : (n : ℕ) → ProductIs n
nest_product zero box s hs t facts rest e k =
    let none : [] ≡ hs = ap (first_or hs) e in
    (omega arith, subst (λ (xs : List Loop). HasProduct box xs 1) none refl)
nest_product (suc n) box s hs t facts rest e k = first_product n (nest_product n) box s hs t facts rest e k

-- where the facts of a nest's loops are known, its product is small or not
pub nest_small : (most n : ℕ) (box : List Side) (s : Tree.Stmt) (facts rest : List LoopFacts) → FactsOf box s facts rest → NestHas (λ hs. Unit {0}) n s → product_of n facts ≤ most
    → NestHas (λ hs. (k : ℕ) × HasProduct box hs k × (k ≤ most)) n s
nest_small most n box s facts rest k (hs, t, e, u) small = (hs, t, e, (product_of n facts, (nest_product n box s hs t facts rest e k).1, small))

pub nest_large : (most n : ℕ) (box : List Side) (s : Tree.Stmt) (facts rest : List LoopFacts) → FactsOf box s facts rest → (n ≤ length facts → product_of n facts ≤ most → ⊥)
    → NestHas (λ hs. (k : ℕ) × HasProduct box hs k × (k ≤ most)) n s → ⊥
nest_large most n box s facts rest k large (hs, t, e, (m, p, small)) =
    let own = nest_product n box s hs t facts rest e k in
    large own.0 (subst (λ (x : ℕ). x ≤ most) (product_once box hs m (product_of n facts) p own.1) small)

-- those of all loops, where none were there before
pub whole_table : (k : Tree.Kernel) (before after table : List LoopFacts) → before ≡ [] → table ≡ after → Pushes (FactsAmong [] k.body) before after → HasFacts k table
whole_table k before after table none same (m, e, f) =
    let is : m ≡ table = sym (same ∙ e ∙ ap (λ (x : List LoopFacts). x ++ m) none) in
    subst (HasFacts k) (append-nil m ∙ is) (f [])
