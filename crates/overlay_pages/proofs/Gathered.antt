-- The writes that tables hold, gathered page by page.
use Rattle.std.proofs.Common.{w64, ◌-◌, ◌^◌, ℕ, suc, ◌≡◌, ◌≢◌, ◌+◌, ◌*◌, ◌/◌, ◌%◌, ◌<◌, ◌≤◌, ◌⊎◌, inl, inr, Bool, true, false, cond, List, [], ◌∷◌, ◌++◌, length, Option, Some, None, refl, sym, ap, ◌∙◌, subst, arith}
use Rattle.std.specs.Prelude.{◌==◌, nat_lt, slice_index, bit_and}
use Rattle.std.specs.Int.{bit_at, trailing_zeros}
use Rattle.std.proofs.lemmas.Bool.{eqb-true, eqb-false, ltb-true, ltb-false, lt-ltb, le-ltb}
use Rattle.std.proofs.lemmas.Nat.Bits.{bit_at-trailing_zeros, bit_at_clear_same, bit_at_clear_other}
use Rattle.overlay_pages.specs.declared.changes.Change.{Change}
use Rattle.overlay_pages.specs.Over.{writes_of, writes_in, unless_held, changing}
use Rattle.overlay_pages.specs.Table.{Table, number_at, bit, spot, slot, slots, IsSound, up_to, Gathers}
use Rattle.overlay_pages.proofs.Tables.{slot_set, slot_clear, bit_is, same_or_not, spot_before, slots_say}
use Rattle.overlay_pages.proofs.Overlays.{writes_push, once_push}

abbrev none_of : Option ℕ
none_of = None

-- the changes with one more, where it changes its cell
abbrev pub with_change : List ℕ → List Change → Change → List Change
with_change cells cs c = cond (c.value == slice_index cells c.place) cs (cs ++ c ∷ [])

before_it : (cells : List ℕ) (t : Table) (m p : ℕ) → spot t p < m → up_to cells t m p ≡ changing (slot t) cells p
before_it cells t m p lt = ap (λ b. cond b (changing (slot t) cells p) None) (lt-ltb (spot t p) m lt)

behind_it : (cells : List ℕ) (t : Table) (m p : ℕ) → m ≤ spot t p → up_to cells t m p ≡ None
behind_it cells t m p le = ap (λ b. cond b (changing (slot t) cells p) None) (le-ltb (spot t p) m le)

-- what is not written changes nothing
unwritten : (cells : List ℕ) (t : Table) (p : ℕ) → slot t p ≡ None → changing (slot t) cells p ≡ None
unwritten cells t p e = ap (unless_held (slice_index cells p)) e

-- where nothing is written between two spots, what is gathered to the one is gathered to the other
pub gathers_skip : (cells : List ℕ) (t : Table) (a b : ℕ) (cs : List Change) → a ≤ b → ((p : ℕ) → a ≤ spot t p → spot t p < b → slot t p ≡ None) → Gathers cells t a cs → Gathers cells t b cs
gathers_skip cells t a b cs le none g = record { each = λ p. g.each p ∙ go p (nat_lt (spot t p) a) refl (nat_lt (spot t p) b) refl; once = g.once }
  where
    go : (p : ℕ) → (x : Bool) → nat_lt (spot t p) a ≡ x → (y : Bool) → nat_lt (spot t p) b ≡ y → up_to cells t a p ≡ up_to cells t b p
    go p true e y f = let lt = ltb-true (spot t p) a e in before_it cells t a p lt ∙ sym (before_it cells t b p (omega arith))
    go p false e true f = let past = ltb-false (spot t p) a e in let lt = ltb-true (spot t p) b f in behind_it cells t a p past ∙ sym (before_it cells t b p lt ∙ unwritten cells t p (none p past lt))
    go p false e false f = let past = ltb-false (spot t p) a e in let far = ltb-false (spot t p) b f in behind_it cells t a p past ∙ sym (behind_it cells t b p far)

-- a page that was entered, and the places at its spots
module _ (t : Table) (s : IsSound t) (k : ℕ) (lt : k < length t.entered) where
  pub number_is : slice_index t.numbers (slice_index t.entered k) ≡ suc k
  number_is = s.known k lt

  pub at_spot : (p r : ℕ) → r < 64 → spot t p ≡ 64 * suc k + r → (p / 64 ≡ slice_index t.entered k) × (p % 64 ≡ r)
  at_spot p r less e =
      let number : number_at t p ≡ suc k = omega arith in
      let entered = s.listed (p / 64) (omega arith) in
      let n = entered.number in
      let same : entered.at ≡ k = omega arith in
      (sym entered.names ∙ ap (slice_index t.entered) same, omega arith)

  pub spot_is : (r : ℕ) → r < 64 → spot t (64 * slice_index t.entered k + r) ≡ 64 * suc k + r
  spot_is r less =
      let page : (64 * slice_index t.entered k + r) / 64 ≡ slice_index t.entered k = omega arith in
      let rest : (64 * slice_index t.entered k + r) % 64 ≡ r = omega arith in
      (λ i. 64 * slice_index t.numbers (page i) + rest i) ∙ ap (λ n. 64 * n + r) number_is

  pub bit_is_there : (r : ℕ) → r < 64 → bit t (64 * slice_index t.entered k + r) ≡ bit_at (slice_index t.masks (slice_index t.entered k)) r
  bit_is_there r less =
      let page : (64 * slice_index t.entered k + r) / 64 ≡ slice_index t.entered k = omega arith in
      let rest : (64 * slice_index t.entered k + r) % 64 ≡ r = omega arith in
      λ i. bit_at (slice_index t.masks (page i)) (rest i)

  -- no bit of the mask is set from one on and before another
  pub none_between : (a b : ℕ) → b ≤ 64 → ((r : ℕ) → a ≤ r → r < b → bit_at (slice_index t.masks (slice_index t.entered k)) r ≡ 0) → (p : ℕ) → 64 * suc k + a ≤ spot t p → spot t p < 64 * suc k + b → slot t p ≡ None
  none_between a b le clear p from before =
      let number : number_at t p ≡ suc k = omega arith in
      let e : spot t p ≡ 64 * suc k + p % 64 = omega arith in
      let there = at_spot p (p % 64) (omega arith) e in
      slot_clear t p (ap (λ q. bit_at (slice_index t.masks q) (p % 64)) there.0 ∙ clear (p % 64) (omega arith) (omega arith))

  -- one more is gathered, or is no change
  pub gathers_on : (cells : List ℕ) (r : ℕ) → r < 64 → bit_at (slice_index t.masks (slice_index t.entered k)) r ≡ 1 → (cs : List Change) → Gathers cells t (64 * suc k + r) cs → (c : Change) → c.place ≡ 64 * slice_index t.entered k + r → c.value ≡ slice_index t.values (64 * suc k + r) → Gathers cells t (64 * suc k + suc r) (with_change cells cs c)
  gathers_on cells r less one cs g c place value = either (c.value == slice_index cells c.place) refl
    where
      here : spot t c.place ≡ 64 * suc k + r
      here = ap (spot t) place ∙ spot_is r less

      filled : slot t c.place ≡ Some c.value
      filled = slot_set t c.place (ap (bit t) place ∙ bit_is_there r less ∙ one) ∙ ap (λ n. Some (slice_index t.values n)) here ∙ ap Some (sym value)

      -- what is told at this place is this write, where it is a change
      told : (p : ℕ) → p ≡ c.place → up_to cells t (64 * suc k + suc r) p ≡ unless_held (slice_index cells c.place) (Some c.value)
      told p same =
          before_it cells t (64 * suc k + suc r) p (let h : spot t p ≡ 64 * suc k + r = ap (spot t) same ∙ here in omega arith)
          ∙ ap (changing (slot t) cells) same ∙ ap (unless_held (slice_index cells c.place)) filled

      -- nothing was told there before
      fresh : writes_of cs c.place ≡ None
      fresh = g.each c.place ∙ behind_it cells t (64 * suc k + r) c.place (let h = here in omega arith)

      -- and at each other place the same is told
      next : (p : ℕ) → (p == c.place) ≡ false → (b : Bool) → nat_lt (spot t p) (64 * suc k + r) ≡ b → up_to cells t (64 * suc k + r) p ≡ up_to cells t (64 * suc k + suc r) p
      next p e true f = let before = ltb-true (spot t p) (64 * suc k + r) f in before_it cells t (64 * suc k + r) p before ∙ sym (before_it cells t (64 * suc k + suc r) p (omega arith))
      next p e false f =
          let past = ltb-false (spot t p) (64 * suc k + r) f in
          let apart : spot t p ≢ 64 * suc k + r = λ h. let q = at_spot p r less h in let q0 = q.0 in let q1 = q.1 in eqb-false p c.place e (let z : p ≡ c.place = omega arith in z) in
          behind_it cells t (64 * suc k + r) p past ∙ sym (behind_it cells t (64 * suc k + suc r) p (omega arith))

      go : (c.value == slice_index cells c.place) ≡ false → (p : ℕ) (b : Bool) → (p == c.place) ≡ b → cond (p == c.place) (Some c.value) (writes_of cs p) ≡ up_to cells t (64 * suc k + suc r) p
      go new p true e =
          let same = eqb-true p c.place e in
          ap (λ b. cond b (Some c.value) (writes_of cs p)) e ∙ sym (told p same ∙ ap (λ b. cond b none_of (Some c.value)) new)
      go new p false e = ap (λ b. cond b (Some c.value) (writes_of cs p)) e ∙ g.each p ∙ next p e (nat_lt (spot t p) (64 * suc k + r)) refl

      kept : (c.value == slice_index cells c.place) ≡ true → (p : ℕ) (b : Bool) → (p == c.place) ≡ b → writes_of cs p ≡ up_to cells t (64 * suc k + suc r) p
      kept held p true e =
          let same = eqb-true p c.place e in
          ap (writes_of cs) same ∙ fresh ∙ sym (told p same ∙ ap (λ b. cond b none_of (Some c.value)) held)
      kept held p false e = g.each p ∙ next p e (nat_lt (spot t p) (64 * suc k + r)) refl

      either : (b : Bool) → (c.value == slice_index cells c.place) ≡ b → Gathers cells t (64 * suc k + suc r) (cond b cs (cs ++ c ∷ []))
      either true e = record { each = λ p. kept e p (p == c.place) refl; once = g.once }
      either false e = record { each = λ p. writes_push cs c p ∙ go e p (p == c.place) refl; once = once_push cs c g.once fresh }

-- of a page that was entered, the cells before one are gathered, and the rest of its mask is left
pub record Gathering (cells : List ℕ) (t : Table) (k turn rest : ℕ) (cs : List Change) : Type 0 where
  pub from : ℕ
  pub turned : turn ≤ from
  pub inside : from ≤ 64
  pub done : (r : ℕ) → r < from → bit_at rest r ≡ 0
  pub left : (r : ℕ) → from ≤ r → r < 64 → bit_at rest r ≡ bit_at (slice_index t.masks (slice_index t.entered k)) r
  pub gathered : Gathers cells t (64 * suc k + from) cs

-- along a mask
module _ (cells : List ℕ) (t : Table) (s : IsSound t) (k : ℕ) (lt : k < length t.entered) (turn rest : ℕ) (cs : List Change) (g : Gathering cells t k turn rest cs) where
  pub gathering_on : 0 < rest → rest < 2 ^ 64 → (b : ℕ) → b ≡ trailing_zeros w64 rest → (c : Change) → c.place ≡ 64 * slice_index t.entered k + b → c.value ≡ slice_index t.values (64 * suc k + b) → Gathering cells t k (turn + 1) (bit_and rest (18446744073709551615 - 1 * 2 ^ b % 18446744073709551616)) (with_change cells cs c)
  gathering_on more fits b e c place value =
      let z = bit_at-trailing_zeros w64 rest more fits in
      let less : b < 64 = (let z0 = z.0 in omega arith) in
      let one : bit_at rest b ≡ 1 = ap (bit_at rest) e ∙ z.1 in
      let low : (r : ℕ) → r < b → bit_at rest r ≡ 0 = λ r h. z.2 r (omega arith) in
      let from : g.from ≤ b = later b one (nat_lt b g.from) refl in
      let turned = g.turned in
      record {
        from = suc b;
        turned = omega arith;
        inside = less;
        done = λ r h. cleared b less low r h (same_or_not r b);
        left = λ r h i. bit_at_clear_other w64 rest b less r i (λ q. absurd (omega arith)) ∙ g.left r (omega arith) i;
        gathered =
            gathers_on t s k lt cells b less (sym (g.left b from less) ∙ one) cs
            (gathers_skip cells t (64 * suc k + g.from) (64 * suc k + b) cs (omega arith)
            (none_between t s k lt g.from b (omega arith) (λ r h i. sym (g.left r h (omega arith)) ∙ low r i))
            g.gathered)
            c place value;
      }
    where
      later : (b : ℕ) → bit_at rest b ≡ 1 → (x : Bool) → nat_lt b g.from ≡ x → g.from ≤ b
      later b one true h = let z = g.done b (ltb-true b g.from h) in absurd (omega arith)
      later b one false h = ltb-false b g.from h

      cleared : (b : ℕ) → b < 64 → ((r : ℕ) → r < b → bit_at rest r ≡ 0) → (r : ℕ) → r < suc b → (r ≡ b) ⊎ (r ≢ b) → bit_at (bit_and rest (18446744073709551615 - 1 * 2 ^ b % 18446744073709551616)) r ≡ 0
      cleared b less low r h (inl q) = ap (bit_at (bit_and rest (18446744073709551615 - 1 * 2 ^ b % 18446744073709551616))) q ∙ bit_at_clear_same w64 rest b less
      cleared b less low r h (inr ne) = bit_at_clear_other w64 rest b less r (omega arith) ne ∙ low r (omega arith)

  pub gathering_over : ((r : ℕ) → g.from ≤ r → r < 64 → bit_at rest r ≡ 0) → Gathers cells t (64 * suc (suc k)) cs
  gathering_over none =
      let far : 64 * suc k + 64 ≡ 64 * suc (suc k) = omega arith in
      let within = g.inside in
      subst (λ (m : ℕ). Gathers cells t m cs) far
      (gathers_skip cells t (64 * suc k + g.from) (64 * suc k + 64) cs (omega arith)
      (none_between t s k lt g.from 64 (omega arith) (λ r h i. sym (g.left r h i) ∙ none r h i))
      g.gathered)

pub gathering_from : (cells : List ℕ) (t : Table) (k rest : ℕ) (cs : List Change) → rest ≡ slice_index t.masks (slice_index t.entered k) → Gathers cells t (64 * suc k) cs → Gathering cells t k 0 rest cs
gathering_from cells t k rest cs e g =
    record {
      from = 0;
      turned = omega arith;
      inside = omega arith;
      done = λ r h. absurd (omega arith);
      left = λ r h i. ap (λ m. bit_at m r) e;
      gathered = let same : 64 * suc k ≡ 64 * suc k + 0 = omega arith in subst (λ (m : ℕ). Gathers cells t m cs) same g;
    }

-- at the start nothing is gathered
pub gathers_none : (cells : List ℕ) (t : Table) → IsSound t → Gathers cells t (64 * suc 0) []
gathers_none cells t s = record { each = λ p. go p (nat_lt (spot t p) (64 * suc 0)) refl; once = tt }
  where
    go : (p : ℕ) (b : Bool) → nat_lt (spot t p) (64 * suc 0) ≡ b → None ≡ up_to cells t (64 * suc 0) p
    go p false e = sym (behind_it cells t (64 * suc 0) p (ltb-false (spot t p) (64 * suc 0) e))
    go p true e =
        let lt = ltb-true (spot t p) (64 * suc 0) e in
        sym (before_it cells t (64 * suc 0) p lt ∙ unwritten cells t p (none (bit_is t p)))
      where
        none : (bit t p ≡ 1) ⊎ (bit t p ≡ 0) → slot t p ≡ None
        none (inl one) = let w = s.within p one in let more = w.1 in let lt = ltb-true (spot t p) (64 * suc 0) e in absurd (omega arith)
        none (inr z) = slot_clear t p z

-- at the end every change is
pub gathers_all : (cells : List ℕ) (t : Table) → IsSound t → (cs : List Change) → Gathers cells t (64 * suc (length t.entered)) cs → (p : ℕ) → writes_of cs p ≡ changing (writes_in (slots t)) cells p
gathers_all cells t s cs g p = g.each p ∙ go (bit_is t p) ∙ ap (unless_held (slice_index cells p)) (sym (slots_say t s p))
  where
    go : (bit t p ≡ 1) ⊎ (bit t p ≡ 0) → up_to cells t (64 * suc (length t.entered)) p ≡ changing (slot t) cells p
    go (inl one) = let w = s.within p one in before_it cells t (64 * suc (length t.entered)) p (spot_before t s p w.1)
    go (inr z) =
        let nothing = unwritten cells t p (slot_clear t p z) in
        ap (λ o. cond (nat_lt (spot t p) (64 * suc (length t.entered))) o None) nothing ∙ never (nat_lt (spot t p) (64 * suc (length t.entered))) ∙ sym nothing
      where
        never : (b : Bool) → cond b none_of none_of ≡ none_of
        never true = refl
        never false = refl
