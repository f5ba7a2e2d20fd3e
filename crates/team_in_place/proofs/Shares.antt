-- The shares of a team's workers of the turns of a prefix sum.
use Rattle.std.proofs.Common.{◌≡◌, ◌⊎◌, inl, inr, ℕ, zero, suc, ◌+◌, ◌-◌, ◌*◌, ◌/◌, ◌%◌, ◌^◌, ◌<◌, ◌≤◌, List, ◌++◌, length, sym, ap, ◌∙◌, subst, arith}
use Rattle.std.specs.Prelude.{slice_index}
use Rattle.std.proofs.Math.Nat.{div-le_self, div-mul-le_self, mul-add, mul-div_left}
use Rattle.std.proofs.lemmas.Nat.{le-div}
use Rattle.std.proofs.lemmas.Bool.{cases_lt}
use Rattle.std.proofs.lemmas.List.{get_or_append_left, get_or-append-add, length-append}
use Rattle.team_scans.specs.Placed.{IsPlaced, LeavesOwn, IsPartDone, IsSum, carried_by, left_by}
use Rattle.team_scans.specs.declared.prefixes.Prefixes.{Prefixes}
use Rattle.team_in_place.specs.Scanning.{AreShares, AreSharesDone, AreStarts, AreSums, share_first, share_turns, start_of}

-- ---- how many turns they are

module _ (head count workers : ℕ) (some : 0 < workers) where
  pub share_zero : share_first head count workers 0 ≡ head
  share_zero =
      let e : (count - head) * 0 ≡ 0 = omega arith in
      let h = div-le_self 0 workers in
      let z : 0 / workers ≡ 0 = omega (arith, h) in
      let q : (count - head) * 0 / workers ≡ 0 = ap (λ n. n / workers) e ∙ z in
      omega (arith, q)

  pub share_all : head ≤ count → share_first head count workers workers ≡ count
  share_all within =
      let h : (count - head) * workers / workers ≡ count - head = mul-div_left (count - head) some in
      omega (arith, h, within)

  pub share_rises : (a b : ℕ) → a ≤ b → share_first head count workers a ≤ share_first head count workers b
  share_rises a b le =
      let h = div-mul-le_self ((count - head) * a) workers in
      let rest : b ≡ a + (b - a) = omega (arith, le) in
      let both : (count - head) * b ≡ (count - head) * a + (count - head) * (b - a) = ap (λ n. (count - head) * n) rest ∙ mul-add (count - head) a (b - a) in
      let up : (count - head) * a / workers ≤ (count - head) * b / workers = le-div ((count - head) * a / workers) ((count - head) * b) workers some (omega (arith, h, both)) in
      omega (arith, up)

  pub share_within : head ≤ count → (a : ℕ) → a ≤ workers → share_first head count workers a ≤ count
  share_within within a le =
      let h = share_rises a workers le in
      let all = share_all within in
      omega (arith, h, all)

  -- each worker has turns
  pub share_some : head + workers ≤ count → (a b : ℕ) → a < b → share_first head count workers a < share_first head count workers b
  share_some enough a b lt =
      let n = count - head in
      let h = div-mul-le_self (n * a) workers in
      let rest : b ≡ a + 1 + (b - a - 1) = omega (arith, lt) in
      let both : n * b ≡ n * (a + 1) + n * (b - a - 1) = ap (λ k. n * k) rest ∙ mul-add n (a + 1) (b - a - 1) in
      let one : n * (a + 1) ≡ n * a + n = omega arith in
      let more : (n * a / workers + 1) * workers ≡ n * a / workers * workers + workers = omega arith in
      let many : workers ≤ n = omega (arith, enough) in
      let low : n * a / workers + 1 ≤ n * b / workers = le-div (n * a / workers + 1) (n * b) workers some (omega (arith, h, both, one, more, many)) in
      omega (arith, low)

  -- the turns of some workers, and of those behind
  module _ (worker a b : ℕ) where
    pub first_behind : share_first head count workers worker + share_turns head count workers worker a ≡ share_first head count workers (worker + a)
    first_behind = let h = share_rises worker (worker + a) (omega arith) in omega (arith, h)

    pub turns_both : share_turns head count workers worker (a + b) ≡ share_turns head count workers worker a + share_turns head count workers (worker + a) b
    turns_both =
        let e : worker + (a + b) ≡ worker + a + b = omega arith in
        let same = ap (share_first head count workers) e in
        let one = share_rises worker (worker + a) (omega arith) in
        let two = share_rises (worker + a) (worker + a + b) (omega arith) in
        omega (arith, same, one, two)

    -- and the cells that they have to themselves
    pub cells_both : (width number : ℕ) → a < number → b ≡ number - a → width * share_turns head count workers worker number ≡ width * share_turns head count workers worker a + width * share_turns head count workers (worker + a) b
    cells_both width number less is =
        let all : number ≡ a + b = omega (arith, less, is) in
        ap (λ n. width * share_turns head count workers worker n) all
        ∙ ap (λ n. width * n) turns_both
        ∙ mul-add width (share_turns head count workers worker a) (share_turns head count workers (worker + a) b)

-- ---- one behind another

module _ (s : Prefixes) (from a b : ℕ) (front back cells : List ℕ) (long : length front ≡ s.window.width * a) (placed : IsPlaced s from (a + b) (front ++ back) cells) where
  both : s.window.width * (a + b) ≡ s.window.width * a + s.window.width * b
  both = mul-add s.window.width a b

  on : s.window.width * (from + a) ≡ s.window.width * from + s.window.width * a
  on = mul-add s.window.width from a

  placed_front : IsPlaced s from a front cells
  placed_front = record {
    apart = placed.apart;
    long = placed.long;
    low = placed.low;
    before = placed.before;
    own = λ k lt. sym (get_or_append_left front back 0 k (omega (arith, lt, long))) ∙ placed.own k (omega (arith, lt, both));
    behind = placed.behind;
  }

  placed_back : IsPlaced s (from + a) b back cells
  placed_back = record {
    apart = placed.apart;
    long = placed.long;
    low = placed.low;
    before = placed.before;
    own = λ k lt.
        let at : s.window.low + s.window.width * from + (length front + k) ≡ s.window.low + s.window.width * (from + a) + k = omega (arith, on, long) in
        sym (get_or-append-add front back k 0) ∙ placed.own (length front + k) (omega (arith, lt, both, long)) ∙ ap (slice_index cells) at;
    behind = placed.behind;
  }

  -- parts that are done
  module _ (front' back' rs rs' : List ℕ) (some : 0 < b) (kept : length front' ≡ length front) (first : LeavesOwn s from a front' rs cells) (second : LeavesOwn s (from + a) b back' rs' cells) where
    abbrev here : ℕ → Type 0
    here k = slice_index (front' ++ back') k ≡ slice_index (left_by s cells s.count).cells (s.window.low + s.window.width * from + k)

    in_front : (k : ℕ) → k < s.window.width * a → here k
    in_front k lt = get_or_append_left front' back' 0 k (omega (arith, lt, long, kept)) ∙ first.own k lt

    in_back : (k : ℕ) → k < s.window.width * b → here (length front' + k)
    in_back k lt =
        let at : s.window.low + s.window.width * (from + a) + k ≡ s.window.low + s.window.width * from + (length front' + k) = omega (arith, on, long, kept) in
        get_or-append-add front' back' k 0 ∙ second.own k lt ∙ ap (slice_index (left_by s cells s.count).cells) at

    anywhere : (k : ℕ) → k < s.window.width * (a + b) → (k < s.window.width * a) ⊎ (s.window.width * a ≤ k) → here k
    anywhere k lt (inl less) = in_front k less
    anywhere k lt (inr more) =
        let at : length front' + (k - length front') ≡ k = omega (arith, more, long, kept) in
        subst here at (in_back (k - length front') (omega (arith, lt, more, both, long, kept)))

    joined : LeavesOwn s from (a + b) (front' ++ back') rs' cells
    joined = record {
      own = λ k lt. anywhere k lt (cases_lt k (s.window.width * a));
      registers = λ more. second.registers some ∙ ap (λ n. (left_by s cells n).registers) (let e : from + a + b ≡ from + (a + b) = omega arith in e);
    }

module _ (s : Prefixes) (head workers worker x y : ℕ) (some : 0 < workers) (front back : List ℕ) (long : length front ≡ s.window.width * share_turns head s.count workers worker x) where
  abbrev a : ℕ
  a = share_turns head s.count workers worker x

  abbrev b : ℕ
  b = share_turns head s.count workers (worker + x) y

  module _ (cells : List ℕ) (shares : AreShares s head workers worker (x + y) (front ++ back) cells) where
    placed : IsPlaced s (share_first head s.count workers worker) (a + b) (front ++ back) cells
    placed = subst (λ n. IsPlaced s (share_first head s.count workers worker) n (front ++ back) cells) (turns_both head s.count workers some worker x y) shares

    shares_front : AreShares s head workers worker x front cells
    shares_front = placed_front s (share_first head s.count workers worker) a b front back cells long placed

    shares_back : AreShares s head workers (worker + x) y back cells
    shares_back =
        subst (λ n. IsPlaced s n b back cells) (first_behind head s.count workers some worker x y)
        (placed_back s (share_first head s.count workers worker) a b front back cells long placed)

  -- what they add
  module _ (sums sums' : List ℕ) (many : length sums ≡ x) (first : AreSums s head workers worker x front sums) (second : AreSums s head workers (worker + x) y back sums') where
    abbrev adds : List ℕ → ℕ → Type 0
    adds cells k = carried_by s cells (share_first head s.count workers (suc (worker + k))) ≡ (carried_by s cells (share_first head s.count workers (worker + k)) + slice_index (sums ++ sums') k) % 2 ^ 64

    at_front : (cells : List ℕ) → AreShares s head workers worker (x + y) (front ++ back) cells → (k : ℕ) → k < x → suc (worker + k) < workers → adds cells k
    at_front cells shares k lt more =
        first.adds cells (shares_front cells shares) k lt more
        ∙ ap (λ n. (carried_by s cells (share_first head s.count workers (worker + k)) + n) % 2 ^ 64) (sym (get_or_append_left sums sums' 0 k (omega (arith, lt, many))))

    at_back : (cells : List ℕ) → AreShares s head workers worker (x + y) (front ++ back) cells → (k : ℕ) → k < y → suc (worker + (length sums + k)) < workers → adds cells (length sums + k)
    at_back cells shares k lt more =
        let at : worker + x + k ≡ worker + (length sums + k) = omega (arith, many) in
        ap (λ n. carried_by s cells (share_first head s.count workers (suc n))) (sym at)
        ∙ second.adds cells (shares_back cells shares) k lt (omega (arith, at, more))
        ∙ ap (λ n. (carried_by s cells (share_first head s.count workers n) + slice_index sums' k) % 2 ^ 64) at
        ∙ ap (λ n. (carried_by s cells (share_first head s.count workers (worker + (length sums + k))) + n) % 2 ^ 64) (sym (get_or-append-add sums sums' k 0))

    pub sums_join : AreSums s head workers worker (x + y) (front ++ back) (sums ++ sums')
    sums_join = record { adds = λ cells shares k lt more. go cells shares k lt more (cases_lt k x) }
      where
        go : (cells : List ℕ) → AreShares s head workers worker (x + y) (front ++ back) cells → (k : ℕ) → k < x + y → suc (worker + k) < workers → (k < x) ⊎ (x ≤ k) → adds cells k
        go cells shares k lt further (inl less) = at_front cells shares k less further
        go cells shares k lt further (inr more) =
            let at : length sums + (k - length sums) ≡ k = omega (arith, more, many) in
            subst (adds cells) at (at_back cells shares (k - length sums) (omega (arith, lt, more, many)) (omega (arith, at, further)))

  -- their turns
  module _ (enough : head + workers ≤ s.count) (more : 0 < y) (starts starts' front' back' rs rs' : List ℕ) (many : length starts ≡ x)
      (first : AreSharesDone s head workers worker x starts front front' rs) (second : AreSharesDone s head workers (worker + x) y starts' back back' rs') where
    starts_front : (cells : List ℕ) → AreStarts s head workers worker (x + y) (starts ++ starts') cells → AreStarts s head workers worker x starts cells
    starts_front cells are k lt = sym (get_or_append_left starts starts' 0 k (omega (arith, lt, many))) ∙ are k (omega (arith, lt))

    starts_back : (cells : List ℕ) → AreStarts s head workers worker (x + y) (starts ++ starts') cells → AreStarts s head workers (worker + x) y starts' cells
    starts_back cells are k lt =
        let at : worker + (length starts + k) ≡ worker + x + k = omega (arith, many) in
        sym (get_or-append-add starts starts' k 0) ∙ are (length starts + k) (omega (arith, lt, many)) ∙ ap (λ n. carried_by s cells (share_first head s.count workers n)) at

    some_behind : 0 < b
    some_behind = let h = share_some head s.count workers some enough (worker + x) (worker + x + y) (omega (arith, more)) in omega (arith, h)

    leave : (cells : List ℕ) → AreShares s head workers worker (x + y) (front ++ back) cells → AreStarts s head workers worker (x + y) (starts ++ starts') cells
        → LeavesOwn s (share_first head s.count workers worker) (share_turns head s.count workers worker (x + y)) (front' ++ back') rs' cells
    leave cells shares are =
        let at = first_behind head s.count workers some worker x y in
        let one = first.does cells (shares_front cells shares) (starts_front cells are) in
        let two : LeavesOwn s (share_first head s.count workers worker + a) b back' rs' cells =
        subst (λ n. LeavesOwn s n b back' rs' cells) (sym at) (second.does cells (shares_back cells shares) (starts_back cells are)) in
        subst (λ n. LeavesOwn s (share_first head s.count workers worker) n (front' ++ back') rs' cells) (sym (turns_both head s.count workers some worker x y))
        (joined s (share_first head s.count workers worker) a b front back cells long (placed cells shares) front' back' rs rs' some_behind first.long one two)

    pub shares_join : AreSharesDone s head workers worker (x + y) (starts ++ starts') (front ++ back) (front' ++ back') rs'
    shares_join =
        let f = first.long in
        let g = second.long in
        let all = length-append front back in
        let all' = length-append front' back' in
        record {
          long = omega (arith, f, g, all, all');
          does = leave;
        }

-- ---- one worker's

module _ (s : Prefixes) (head workers worker : ℕ) (some : 0 < workers) where
  behind_one : share_first head s.count workers worker + share_turns head s.count workers worker 1 ≡ share_first head s.count workers (suc worker)
  behind_one = first_behind head s.count workers some worker 1 0 ∙ ap (share_first head s.count workers) (let e : worker + 1 ≡ suc worker = omega arith in e)

  abbrev adds_at : List ℕ → List ℕ → ℕ → Type 0
  adds_at sums cells k = carried_by s cells (share_first head s.count workers (suc (worker + k))) ≡ (carried_by s cells (share_first head s.count workers (worker + k)) + slice_index sums k) % 2 ^ 64

  pub one_sum : (mine sums : List ℕ) (sum : ℕ) → slice_index sums 0 ≡ sum → IsSum s (share_first head s.count workers worker) (share_turns head s.count workers worker 1) mine sum → AreSums s head workers worker 1 mine sums
  one_sum mine sums sum held is = record { adds = λ cells shares k lt more. go cells shares k (omega (arith, lt)) }
    where
      same : worker + 0 ≡ worker
      same = omega arith

      go : (cells : List ℕ) → AreShares s head workers worker 1 mine cells → (k : ℕ) → 0 ≡ k → adds_at sums cells k
      go cells shares k first =
          subst (adds_at sums cells) first
          (ap (λ n. carried_by s cells (share_first head s.count workers (suc n))) same
          ∙ sym (ap (carried_by s cells) behind_one)
          ∙ is cells shares
          ∙ ap (λ n. (carried_by s cells (share_first head s.count workers worker) + n) % 2 ^ 64) (sym held)
          ∙ ap (λ n. (carried_by s cells (share_first head s.count workers n) + slice_index sums 0) % 2 ^ 64) (sym same))

  -- none is asked for behind the last worker
  pub no_sum : (mine sums : List ℕ) → worker + 1 ≡ workers → AreSums s head workers worker 1 mine sums
  no_sum mine sums last = record { adds = λ cells shares k lt more. absurd (omega (arith, last, more)) }

  pub one_done : (starts mine new rs : List ℕ) → IsPartDone s (slice_index starts 0) (share_first head s.count workers worker) (share_turns head s.count workers worker 1) mine new rs → AreSharesDone s head workers worker 1 starts mine new rs
  one_done starts mine new rs done = record {
    long = done.long;
    does = λ cells shares are. done.does cells shares (are 0 (omega arith) ∙ ap (λ n. carried_by s cells (share_first head s.count workers n)) (let e : worker + 0 ≡ worker = omega arith in e));
  }

-- ---- all workers'

module _ (s : Prefixes) (head workers : ℕ) (some : 0 < workers) (within : head ≤ s.count) where
  turns_all : share_turns head s.count workers 0 workers ≡ s.count - head
  turns_all =
      let first = share_zero head s.count workers some in
      let last = share_all head s.count workers some within in
      let same = ap (share_first head s.count workers) (let e : 0 + workers ≡ workers = omega arith in e) in
      omega (arith, first, last, same)

  pub width_all : s.window.width * share_turns head s.count workers 0 workers ≡ s.window.width * (s.count - head)
  width_all = ap (λ n. s.window.width * n) turns_all

  module _ (mine : List ℕ) (first : ℕ) (sums starts : List ℕ) (adds : AreSums s head workers 0 workers mine sums) (begin : (k : ℕ) → k < workers → slice_index starts k ≡ start_of first sums k) where
    module _ (cells : List ℕ) (shares : AreShares s head workers 0 workers mine cells) (is : first ≡ carried_by s cells head) where
      carries : (k : ℕ) → k < workers → start_of first sums k ≡ carried_by s cells (share_first head s.count workers k)
      carries zero lt = is ∙ ap (carried_by s cells) (sym (share_zero head s.count workers some))
      carries (suc k) lt =
          let e : 0 + k ≡ k = omega arith in
          ap (λ n. (n + slice_index sums k) % 2 ^ 64) (carries k (omega (arith, lt)))
          ∙ ap (λ n. (carried_by s cells (share_first head s.count workers n) + slice_index sums k) % 2 ^ 64) (sym e)
          ∙ sym (adds.adds cells shares k (omega (arith, lt)) (omega (arith, lt)))
          ∙ ap (λ n. carried_by s cells (share_first head s.count workers (suc n))) e

      are_starts : AreStarts s head workers 0 workers starts cells
      are_starts k lt = begin k lt ∙ carries k lt ∙ ap (λ n. carried_by s cells (share_first head s.count workers n)) (let e : k ≡ 0 + k = omega arith in e)

    pub all_shares : (new rs : List ℕ) → AreSharesDone s head workers 0 workers starts mine new rs → IsPartDone s first head (s.count - head) mine new rs
    all_shares new rs done = record {
      long = done.long;
      does = λ cells placed is.
          let shares : AreShares s head workers 0 workers mine cells =
          subst (λ n. IsPlaced s n (share_turns head s.count workers 0 workers) mine cells) (sym (share_zero head s.count workers some))
          (subst (λ n. IsPlaced s head n mine cells) (sym turns_all) placed) in
          subst (λ n. LeavesOwn s n (s.count - head) new rs cells) (share_zero head s.count workers some)
          (subst (λ n. LeavesOwn s (share_first head s.count workers 0) n new rs cells) turns_all
          (done.does cells shares (are_starts cells shares is)));
    }
