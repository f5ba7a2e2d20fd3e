-- Turns with a loop in them whose places go by the width of a window have their cells to themselves.
use Rattle.std.proofs.Common.{◌≡◌, ◌⊎◌, inl, inr, ℕ, ◌+◌, ◌*◌, ◌-◌, ◌%◌, ◌^◌, ◌<◌, ◌≤◌, Bool, true, false, cond, Option, None, Some, List, ◌++◌, length, refl, sym, ap, ◌∙◌, subst, arith}
use Rattle.std.specs.Prelude.{slice_index, ◌==◌, ◌||◌, Contains, IfSome}
use Rattle.std.proofs.lemmas.Nat.{mul-le}
use Rattle.std.proofs.lemmas.Bool.{or_left, or_right}
use Rattle.std.proofs.lemmas.List.Elements.{Contains-append_cases}
use Rattle.lower_machine.specs.declared.term.Register.{Register}
use Rattle.lower_machine.specs.Machine.{machine}
use Rattle.lower_op.specs.declared.op.Form.{Form}
use Rattle.lower_op.specs.declared.op.Op.{Op}
use Rattle.lower_op.specs.declared.op.Op.TheVariants.{Load, LoadNear, LoadForm, PlusNear, MinusNear, TimesNear, BitAndNear, BitXorNear, PlusForm, MinusForm, TimesForm, BitAndForm, BitXorForm, Save, SaveNear, SaveForm, AddNear, AddForm, UpdateForm, UpdateFrom}
use Rattle.law_parts.specs.Parts.{KeepApart}
use Rattle.law_lanes.specs.Lanes.{entered}
use Rattle.law_unrolled.specs.Unrolled.{form_at, placed_at, flat, KeepsTo, ReadsItsOwn}
use Rattle.law_unrolled.proofs.Apart.{apart_law}
use Rattle.lane_rows.specs.Lanes.{stepped}
use Rattle.lane_part.specs.declared.part.Part.{Part}
use Rattle.lane_part.specs.declared.part.Work.{Work}
use Rattle.lane_part.specs.declared.part.Work.TheVariants as W
use Rattle.lane_part.specs.declared.place.Stride.{Stride}
use Rattle.lane_part.specs.declared.place.Turns.{Turns}
use Rattle.lane_part.specs.Parts.{part_of, work_loads, work_saves}
use Rattle.lane_part.specs.Places.{places_of, sources, stride}
use Rattle.team_parts.specs.declared.turned.Nest.{Nest}
use Rattle.team_parts.specs.declared.window.Window.{Window}
use Rattle.team_parts.specs.Around.{AreInner, FitsInside, NestFits}
use Rattle.team_parts.specs.Turned.{nested_in}
use Rattle.team_parts.specs.Window.{Keeps, LiesBeside, IsBelow, FitsWindow, bound_of}
use Rattle.team_parts.proofs.NestPlaces.{nest_places}
use Rattle.team_parts.proofs.Windows.{width_rises, written_there, read_there}

-- ---- strides that begin at the places of inner turns

-- in the last of so many turns a stride has gone furthest
last_furthest : (step k count : ℕ) → k < count → k * step ≤ (count - 1) * step
last_furthest step k count lt = mul-le k step (count - 1) step (omega (arith, lt)) (omega arith)

same_mod : (n : ℕ) → n < 2 ^ 64 → n % 2 ^ 64 ≡ n
same_mod n lt = omega arith

-- between the first place and the last nothing is taken modulo 2^64
nothing_wraps : (start step k count : ℕ) → k < count → start + (count - 1) * step < 2 ^ 64 → stepped start step k ≡ start + k * step
nothing_wraps start step k count lt small = let far = last_furthest step k count lt in same_mod (start + k * step) (omega (arith, far, small))

-- those of which the last is in front, or the first behind
pub all_beside : (w : Window) (turns start step count further : ℕ) → start + (count - 1) * step < 2 ^ 62 → further < 2 ^ 38
    → ((start + (count - 1) * step) + turns * further < w.low + further) ⊎ (w.low + w.width * turns ≤ start)
    → (k : ℕ) → k < count → LiesBeside w turns (stride (stepped start step k) further)
all_beside w turns start step count further small short aside k lt =
    let far = last_furthest step k count lt in
    let is = nothing_wraps start step k count lt (omega (arith, small)) in
    record { start = omega (arith, is, far, small); step = short; aside = go far is aside }
  where
    go : k * step ≤ (count - 1) * step → stepped start step k ≡ start + k * step → ((start + (count - 1) * step) + turns * further < w.low + further) ⊎ (w.low + w.width * turns ≤ start)
        → (stepped start step k + turns * further < w.low + further) ⊎ (w.low + w.width * turns ≤ stepped start step k)
    go far is (inl less) = inl (omega (arith, far, is, less))
    go far is (inr more) = inr (omega (arith, is, more))

-- ---- the parts of an instruction with a number in its place

work_placed : (v n : ℕ) (op : Op) → (part_of (placed_at v n op)).work ≡ (part_of op).work
work_placed v n (Load to a) = go (a.at == v)
  where
    go : (b : Bool) → (part_of (cond b (LoadForm to (form_at v n (record { constant = 0; left_factor = 1; left = a; right_factor = 0; right = a }))) (Load to a))).work ≡ W.Load
    go true = refl
    go false = refl
work_placed v n (Save a b) = go (a.at == v)
  where
    go : (c : Bool) → (part_of (cond c (SaveForm (form_at v n (record { constant = 0; left_factor = 1; left = a; right_factor = 0; right = a })) b) (Save a b))).work ≡ W.Save b
    go true = refl
    go false = refl
work_placed v n op = refl

-- the form of a near place, where a test says whether its register is the variable
abbrev near_placed : ℕ → Register → Bool → Form
near_placed n a b = record { constant = (0 + cond b (1 * n) 0 + cond b (0 * n) 0) % 2 ^ 64; left_factor = cond b 0 1; left = a; right_factor = cond b 0 0; right = a }

form_placed : (v n : ℕ) (op : Op) → (work_saves (part_of op).work || work_loads (part_of op).work) ≡ true → (part_of (placed_at v n op)).form ≡ form_at v n (part_of op).form
form_placed v n (Load to a) h = go (a.at == v)
  where
    go : (b : Bool) → (part_of (cond b (LoadForm to (near_placed n a b)) (Load to a))).form ≡ near_placed n a b
    go true = refl
    go false = refl
form_placed v n (LoadNear to d a) h = refl
form_placed v n (LoadForm to f) h = refl
form_placed v n (PlusNear to a d b) h = refl
form_placed v n (MinusNear to a d b) h = refl
form_placed v n (TimesNear to a d b) h = refl
form_placed v n (BitAndNear to a d b) h = refl
form_placed v n (BitXorNear to a d b) h = refl
form_placed v n (PlusForm to a f) h = refl
form_placed v n (MinusForm to a f) h = refl
form_placed v n (TimesForm to a f) h = refl
form_placed v n (BitAndForm to a f) h = refl
form_placed v n (BitXorForm to a f) h = refl
form_placed v n (Save a b) h = go (a.at == v)
  where
    go : (c : Bool) → (part_of (cond c (SaveForm (near_placed n a c) b) (Save a b))).form ≡ near_placed n a c
    go true = refl
    go false = refl
form_placed v n (SaveNear d a b) h = refl
form_placed v n (SaveForm f b) h = refl
form_placed v n (AddNear d a b) h = refl
form_placed v n (AddForm f b) h = refl
form_placed v n (UpdateForm op f b) h = refl
form_placed v n (UpdateFrom op f d b) h = refl
form_placed v n op h = absurd (cc h)

-- what is read elsewhere begins as far from the places of a form in each turn
moved : (a d p : ℕ) → ((a + p) % 2 ^ 64 + d) % 2 ^ 64 ≡ ((a + d) % 2 ^ 64 + p) % 2 ^ 64
moved a d p = omega arith

sources_along : (work : Work) (s : Stride) (k step : ℕ) → sources work (stride (stepped s.start s.step k) step) ≡ stride (stepped (sources work s).start (sources work s).step k) step
sources_along (W.UpdateFrom op d b) s k step = ap (λ (n : ℕ). stride n step) (moved s.start d (k * s.step))
sources_along work s k step = refl

-- ---- an inner instruction

-- a form's places in the turns, in an inner one
abbrev along : Turns → Turns → Form → ℕ → Stride
along outer inner f k =
    stride (stepped (places_of inner.variable inner.first inner.by inner.registers.now f).start (places_of inner.variable inner.first inner.by inner.registers.now f).step k)
    (places_of outer.variable outer.first outer.by outer.registers.now f).step

-- where its parts and strides are known
module _ (w : Window) (outer inner : Turns) (is : AreInner outer inner) (op : Op) (part : Part) (begun further : Stride) (parts_are : part ≡ part_of op)
    (begun_is : begun ≡ places_of inner.variable inner.first inner.by inner.registers.now part.form) (further_is : further ≡ places_of outer.variable outer.first outer.by outer.registers.now part.form) where
  abbrev placed : ℕ → Op
  placed k = placed_at inner.variable (stepped inner.first inner.by k) op

  abbrev placed_places : ℕ → Stride
  placed_places k = places_of outer.variable outer.first outer.by outer.registers.now (part_of (placed k)).form

  works : (k : ℕ) → (part_of (placed k)).work ≡ part.work
  works k = work_placed inner.variable (stepped inner.first inner.by k) op ∙ ap (λ (x : Part). x.work) (sym parts_are)

  form_along : (k : ℕ) → (work_saves part.work || work_loads part.work) ≡ true → placed_places k ≡ along outer inner part.form k
  form_along k touches =
      ap (places_of outer.variable outer.first outer.by outer.registers.now)
      (form_placed inner.variable (stepped inner.first inner.by k) op (ap (λ (x : Part). work_saves x.work || work_loads x.work) (sym parts_are) ∙ touches) ∙ ap (λ (x : Part). form_at inner.variable (stepped inner.first inner.by k) x.form) (sym parts_are))
      ∙ nest_places outer.variable outer.first outer.by inner.variable inner.first inner.by outer.registers.now part.form k is.apart is.there
      ∙ ap (λ (rs : List ℕ). stride (stepped (places_of inner.variable inner.first inner.by rs part.form).start (places_of inner.variable inner.first inner.by rs part.form).step k) (places_of outer.variable outer.first outer.by outer.registers.now part.form).step) (sym is.begun)

  placed_along : (k : ℕ) → (work_saves part.work || work_loads part.work) ≡ true → placed_places k ≡ stride (stepped begun.start begun.step k) further.step
  placed_along k touches =
      form_along k touches
      ∙ ap (λ (s : Stride). stride (stepped s.start s.step k) (places_of outer.variable outer.first outer.by outer.registers.now part.form).step) (sym begun_is)
      ∙ ap (λ (s : Stride). stride (stepped begun.start begun.step k) s.step) (sym further_is)

  read_along : (k : ℕ) → work_loads part.work ≡ true
      → sources (part_of (placed k)).work (placed_places k) ≡ stride (stepped (sources part.work begun).start (sources part.work begun).step k) further.step
  read_along k loads =
      ap (λ (x : Work). sources x (placed_places k)) (works k)
      ∙ ap (sources part.work) (placed_along k (or_right (work_saves part.work) (work_loads part.work) loads))
      ∙ sources_along part.work begun k further.step

  pub fits_inside : (read : Stride) → read ≡ sources part.work begun → ((k : ℕ) → k < inner.count → work_saves part.work ≡ true → Keeps w (stride (stepped begun.start begun.step k) further.step))
      → ((k : ℕ) → k < inner.count → work_loads part.work ≡ true → Keeps w (stride (stepped read.start read.step k) further.step) ⊎ LiesBeside w outer.count (stride (stepped read.start read.step k) further.step))
      → FitsInside w outer inner op
  fits_inside read read_is writes reads = record { each = λ k lt. record { writes = written k lt; reads = seen k lt } }
    where
      written : (k : ℕ) → k < inner.count → work_saves (part_of (placed k)).work ≡ true → Keeps w (placed_places k)
      written k lt h =
          let saves : work_saves part.work ≡ true = ap work_saves (sym (works k)) ∙ h in
          subst (Keeps w) (sym (placed_along k (or_left (work_saves part.work) (work_loads part.work) saves))) (writes k lt saves)

      seen : (k : ℕ) → k < inner.count → work_loads (part_of (placed k)).work ≡ true
          → Keeps w (sources (part_of (placed k)).work (placed_places k)) ⊎ LiesBeside w outer.count (sources (part_of (placed k)).work (placed_places k))
      seen k lt h =
          let loads : work_loads part.work ≡ true = ap work_loads (sym (works k)) ∙ h in
          subst (λ (s : Stride). Keeps w s ⊎ LiesBeside w outer.count s) (sym (read_along k loads ∙ ap (λ (s : Stride). stride (stepped s.start s.step k) further.step) (sym read_is))) (reads k lt loads)

-- ---- all instructions of a turn

module _ (w : Window) (nest : Nest) (outer inner : Turns) (fits : NestFits nest w outer inner) (few : outer.count ≤ 2 ^ 24) (room : w.low + w.width * outer.count < 2 ^ 62)
    (there : outer.variable < length outer.registers.now) (words : (r : ℕ) → slice_index outer.registers.now r < 2 ^ 64) (cells : List ℕ) where
  keeps_to : (op : Op) (t : ℕ) → t < outer.count → FitsWindow w outer.variable outer.first outer.by outer.count outer.registers.now op
      → KeepsTo (bound_of w) outer.count t (entered outer.variable (stepped outer.first outer.by) t (machine outer.registers.now cells)) op
  keeps_to op t lt fit = record {
    writes = written_there w outer.count few room outer.variable outer.first outer.by outer.registers.now there words cells op t fit lt;
    reads = read_there w outer.count few room outer.variable outer.first outer.by outer.registers.now there words cells op t fit lt;
  }

  around_fits : (op : Op) → Contains (nest.front.now ++ nest.back.now) op → FitsWindow w outer.variable outer.first outer.by outer.count outer.registers.now op
  around_fits op among = go (Contains-append_cases nest.front.now nest.back.now op among)
    where
      go : Contains nest.front.now op ⊎ Contains nest.back.now op → FitsWindow w outer.variable outer.first outer.by outer.count outer.registers.now op
      go (inl front) = fits.front op front
      go (inr back) = fits.back op back

  pub nest_kept_apart : 0 < nest.count → inner.variable ≡ nest.inner.at → inner.first ≡ nest.first → inner.by ≡ nest.by → inner.count ≡ nest.count
      → ReadsItsOwn outer.variable (nested_in nest)
      → KeepApart outer.variable (stepped outer.first outer.by) (flat (nested_in nest)) outer.count (machine outer.registers.now cells) (bound_of w)
  nest_kept_apart some v f b n own = apart_law outer.variable (stepped outer.first outer.by) (nested_in nest) outer.count (machine outer.registers.now cells) (bound_of w) (record {
    some = some;
    own = own.own;
    ends = own.ends;
    inner = own.inner;
    rise = λ j k le. let up = width_rises w outer.count few room j k le in omega (arith, up);
    around = λ op t among lt. keeps_to op t lt (around_fits op among);
    inside = λ op t k among lt less. keeps_to (placed_at nest.inner.at (stepped nest.first nest.by k) op) t lt (placed op k among less);
  })
    where
      placed : (op : Op) (k : ℕ) → Contains nest.ops.now op → k < nest.count
          → FitsWindow w outer.variable outer.first outer.by outer.count outer.registers.now (placed_at nest.inner.at (stepped nest.first nest.by k) op)
      placed op k among less = rw (← v, ← f, ← b) ((fits.inside op among).each k (omega (arith, less, n)))

-- a window in which all fits, where there is one
pub apart_where_some : (found : Option Window) (nest : Nest) (outer inner : Turns) (limit : ℕ) → IfSome found (λ w. NestFits nest w outer inner) → IfSome found (λ w. IsBelow w outer.count limit)
    → outer.variable < length outer.registers.now → ((r : ℕ) → slice_index outer.registers.now r < 2 ^ 64)
    → 0 < nest.count → inner.variable ≡ nest.inner.at → inner.first ≡ nest.first → inner.by ≡ nest.by → inner.count ≡ nest.count → ReadsItsOwn outer.variable (nested_in nest)
    → IfSome found (λ w. (cells : List ℕ) → KeepApart outer.variable (stepped outer.first outer.by) (flat (nested_in nest)) outer.count (machine outer.registers.now cells) (bound_of w))
apart_where_some None nest outer inner limit fits below there words some v f b n own = tt
apart_where_some (Some w) nest outer inner limit fits below there words some v f b n own = λ cells. nest_kept_apart w nest outer inner fits below.few below.room there words cells some v f b n own
