-- Sinks that stand first among items.
use Rattle.std.specs.Prelude.{ℕ, ◌+◌, ◌<◌, ◌≡◌, List, [], ◌∷◌, ◌++◌, length, get_or, take, drop, Option, Some, None, is_none, false}
use Rattle.std.specs.List.{cons_option}
use Rattle.std.proofs.Common.{refl, sym, ap, ◌∙◌, arith, length-append}
use Rattle.std.proofs.lemmas.List.{take_more, drop_all}
use Rattle.semantics.specs.Tree.{Items, no_items}
use Rattle.ktree.specs.View.{with_item, items_of}
use Rattle.ktree.specs.declared.statement.Item.{Item, Directive, Local, Statement'}
use Rattle.ktree.proofs.Trees.{next_item}
use Rattle.flow_doacross.specs.Lines.{Elements}
use Rattle.flow_doacross.specs.Bodies.{Front, with_sink, cut_front}
use Rattle.flow_doacross.specs.Views.{item_sink, sinks_on}

-- items behind some sinks
abbrev pub behind : List Elements → Front → Front
behind es f = record { sinks = es ++ f.sinks; rest = f.rest }

item_front : (text : List ℕ) (item : Item) (rest : Items) → cut_front text (with_item item rest) ≡ with_sink (item_sink text item) (with_item item rest) (cut_front text rest)
item_front text (Directive place) rest = refl
item_front text (Local l) rest = refl
item_front text (Statement' p s) rest = refl

kept_nil : (xs : List Elements) → xs ≡ xs ++ []
kept_nil [] = refl
kept_nil (x ∷ xs) = ap (λ ys. x ∷ ys) (kept_nil xs)

joined : (xs ys zs : List Elements) → (xs ++ ys) ++ zs ≡ xs ++ (ys ++ zs)
joined [] ys zs = refl
joined (x ∷ xs) ys zs = ap (λ es. x ∷ es) (joined xs ys zs)

option_joined : (o : Option Elements) (xs ys zs : List Elements) → xs ≡ ys ++ zs → cons_option o xs ≡ cons_option o ys ++ zs
option_joined None xs ys zs e = e
option_joined (Some es) xs ys zs e = ap (λ fs. es ∷ fs) e

sinks_joined : (text : List ℕ) (xs ys : List Item) → sinks_on text (xs ++ ys) ≡ sinks_on text xs ++ sinks_on text ys
sinks_joined text [] ys = refl
sinks_joined text (x ∷ xs) ys = option_joined (item_sink text x) (sinks_on text (xs ++ ys)) (sinks_on text xs) (sinks_on text ys) (sinks_joined text xs ys)

one_longer : (xs : List Elements) (es : Elements) → length (xs ++ es ∷ []) ≡ length xs + 1
one_longer xs es = omega (arith, length-append xs (es ∷ []))

-- the first so many of some items are sinks
pub record AreSinks (text : List ℕ) (items : List Item) (n : ℕ) : Type 0 where
  pub cut : cut_front text (items_of items) ≡ behind (sinks_on text (take n items)) (cut_front text (items_of (drop n items)))
  pub each : length (sinks_on text (take n items)) ≡ n

pub no_sinks : (text : List ℕ) (items : List Item) → AreSinks text items 0
no_sinks text items = record { cut = refl; each = refl }

-- a front of items, and what stands behind
abbrev IsCut : List ℕ → List Item → ℕ → Type 0
IsCut text items n = cut_front text (items_of items) ≡ record { sinks = sinks_on text (take n items); rest = items_of (drop n items) }

module _ (text : List ℕ) (items : List Item) (n : ℕ) (item : Item) (lt : n < length items) (is : item ≡ get_or items n item) where
  left : items_of (drop n items) ≡ with_item item (items_of (drop (n + 1) items))
  left = next_item items n item lt is

  passed : take (n + 1) items ≡ take n items ++ item ∷ []
  passed = take_more items n item lt ∙ ap (λ x. take n items ++ x ∷ []) (sym is)

  further : cut_front text (items_of (drop n items)) ≡ with_sink (item_sink text item) (with_item item (items_of (drop (n + 1) items))) (cut_front text (items_of (drop (n + 1) items)))
  further = ap (cut_front text) left ∙ item_front text item (items_of (drop (n + 1) items))

  more : (es : Elements) → item_sink text item ≡ Some es → sinks_on text (take (n + 1) items) ≡ sinks_on text (take n items) ++ es ∷ []
  more es e = ap (sinks_on text) passed ∙ sinks_joined text (take n items) (item ∷ []) ∙ ap (λ o. sinks_on text (take n items) ++ cons_option o []) e

  sink_more : (es : Elements) → item_sink text item ≡ Some es → AreSinks text items n → AreSinks text items (n + 1)
  sink_more es e were =
      let sinks = sinks_on text (take n items) in
      let rest = cut_front text (items_of (drop (n + 1) items)) in
      record {
        cut = were.cut ∙ ap (behind sinks) (further ∙ ap (λ o. with_sink o (with_item item (items_of (drop (n + 1) items))) rest) e)
            ∙ ap (λ fs. record { sinks = fs; rest = rest.rest }) (sym (joined sinks (es ∷ []) rest.sinks)) ∙ ap (λ fs. behind fs rest) (sym (more es e));
        each = ap length (more es e) ∙ one_longer sinks es ∙ ap (λ k. k + 1) were.each;
      }

  pub a_sink_more : is_none (item_sink text item) ≡ false → AreSinks text items n → AreSinks text items (n + 1)
  a_sink_more some were = go (item_sink text item) refl some
    where
      go : (o : Option Elements) → item_sink text item ≡ o → is_none o ≡ false → AreSinks text items (n + 1)
      go None e h = absurd (cc h)
      go (Some es) e h = sink_more es e were

  pub no_more : item_sink text item ≡ None → AreSinks text items n → IsCut text items n
  no_more e were =
      let sinks = sinks_on text (take n items) in
      were.cut ∙ ap (behind sinks) (further ∙ ap (λ o. with_sink o (with_item item (items_of (drop (n + 1) items))) (cut_front text (items_of (drop (n + 1) items)))) e)
      ∙ ap (λ fs. record { sinks = fs; rest = with_item item (items_of (drop (n + 1) items)) }) (sym (kept_nil sinks))
      ∙ ap (λ r. record { sinks = sinks; rest = r }) (sym left)

pub all_sinks : (text : List ℕ) (items : List Item) (n : ℕ) → length items ≡ n → AreSinks text items n → IsCut text items n
all_sinks text items n e were =
    let sinks = sinks_on text (take n items) in
    let none : drop n items ≡ [] = drop_all n items (omega arith) in
    were.cut ∙ ap (λ is. behind sinks (cut_front text (items_of is))) none ∙ ap (λ fs. record { sinks = fs; rest = no_items }) (sym (kept_nil sinks))
    ∙ ap (λ is. record { sinks = sinks; rest = items_of is }) (sym none)
