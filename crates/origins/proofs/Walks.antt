-- One way up through the members.
use Rattle.std.proofs.Common.{◌≡◌, ℕ, zero, suc, ◌+◌, ◌<◌, ◌≤◌, Bool, true, false, ◌&&◌, ltb, leb, ◌⊎◌, Some, None, Option, sym, refl, ap, ◌∙◌, ap₂, inl, inr, ⊎_elim, add-one, arith}
use Rattle.std.proofs.lemmas.Bool.{and_parts, and_left, and_right, and_cases, ltb-true, lt-ltb, le-ltb, cases_lt, cases_eq, cases_Bool, both_ways, cond-true, cond-false}
use Rattle.bits.specs.Lowest.{lowest, or_else}
use Rattle.bits.proofs.Lows.{lowest-none, lowest-some, lowest_is_none, lowest_is_some, lowest-same}
use Rattle.channels.specs.declared.ChannelSet.{ChannelSet}
use Rattle.channels.specs.Sets.{holds, above, next_above}
use Rattle.channels.proofs.Views.{holds-past}
use Rattle.origins.specs.Origins.{ahead, can_origin, origin_of, lowest_of, later_origin, from_lowest, or_lowest, Follows}
use Rattle.origins.proofs.Reach.{member_below, by_farthest, no_member}

-- nothing passes from m up to n
pub lowest-gap : (p : ℕ → Bool) (m n : ℕ) → m ≤ n → ((k : ℕ) → m ≤ k → k < n → p k ≡ false) → lowest p n ≡ lowest p m
unfolding lowest
lowest-gap p m zero h g = let z : m ≡ 0 = omega arith in ap (lowest p) (sym z)
lowest-gap p m (suc n) h g =
    ⊎_elim (λ same. ap (lowest p) (sym same))
    (λ other. rw (lowest-gap p m n (omega arith) (λ k a b. g k a (omega arith)), g n (omega arith) (omega arith)) (none (lowest p m)))
    (cases_eq m (suc n))
  where
    none : (o : Option ℕ) → or_else o false n ≡ o
    none (Some k) = refl
    none None = refl

-- the lowest member
pub zero-lowest : (s : ChannelSet) → holds s 0 ≡ true → lowest_of s ≡ Some 0
zero-lowest s t = lowest_is_some (holds s) 1024 0 (omega arith) t (λ j l. absurd (omega arith))

pub above-lowest : (s : ChannelSet) → holds s 0 ≡ false → next_above s 0 ≡ lowest_of s
above-lowest s e = lowest-same (above s 0) (holds s) 1024 (λ k l. same k (cases_eq k 0))
  where
    same : (k : ℕ) → (k ≡ 0) ⊎ (k ≡ 0 → ⊥) → above s 0 k ≡ holds s k
    same k (inl z) = and_left (ltb 0 k) (holds s k) (le-ltb 0 k (omega arith)) ∙ sym (ap (holds s) z ∙ e)
    same k (inr n) = ap (λ b. b && holds s k) (lt-ltb 0 k (below-not k n))
      where
        below-not : (k : ℕ) → (k ≡ 0 → ⊥) → 0 < k
        below-not zero n = absurd (n refl)
        below-not (suc k) n = omega arith

-- the next member
pub record Next (s : ChannelSet) (p c : ℕ) : Type 0 where
  pub up : p < c
  pub below : c < 1024
  pub held : holds s c ≡ true
  pub between : (k : ℕ) → p < k → k < c → holds s k ≡ false

pub next_is : (s : ChannelSet) (p c : ℕ) → next_above s p ≡ Some c → Next s p c
next_is s p c e =
    let f = lowest-some (above s p) 1024 c e in
    let b = and_parts (ltb p c) (holds s c) f.passes in
    record { up = ltb-true p c b.0; below = f.below; held = b.1; between = λ k l m. ⊎_elim (λ no. absurd (both_ways (ltb p k) no (lt-ltb p k l))) (λ no. no) (and_cases (ltb p k) (holds s k) (f.first k m)) }

pub none_above : (s : ChannelSet) (p : ℕ) → next_above s p ≡ None → (k : ℕ) → p < k → holds s k ≡ false
none_above s p e k l =
    ⊎_elim (λ h. ⊎_elim (λ no. absurd (both_ways (ltb p k) no (lt-ltb p k l))) (λ no. no) (and_cases (ltb p k) (holds s k) (lowest-none (above s p) 1024 e k h))) (λ h. holds-past s k h) (cases_lt k 1024)

-- the member before is the farthest one ahead
by_before : (s : ChannelSet) (R p c : ℕ) → holds s p ≡ true → next_above s p ≡ Some c → can_origin s R c ≡ leb (ahead c p) R
by_before s R p c hp e =
    let n = next_is s p c e in
    let up = n.up in
    let below = n.below in
    by_farthest s R c p n.held hp
    (λ m t. let l = member_below s m t in
    ⊎_elim (λ low. omega arith)
    (λ high. ⊎_elim (λ mid. absurd (both_ways (holds s m) (n.between m high mid) t)) (λ far. omega arith) (cases_lt m c))
    (at_most m p))
  where
    at_most : (m p : ℕ) → (m ≤ p) ⊎ (p < m)
    at_most m p = ⊎_elim inr inl (cases_lt p m)

by_highest : (s : ChannelSet) (R c p : ℕ) → lowest_of s ≡ Some c → holds s p ≡ true → next_above s p ≡ None → can_origin s R c ≡ leb (ahead c p) R
by_highest s R c p lo hp e =
    let f = lowest-some (holds s) 1024 c lo in
    let cb = f.below in
    let pb = member_below s p hp in
    let first : (m : ℕ) → holds s m ≡ true → c ≤ m = λ m t. ⊎_elim (λ l. absurd (both_ways (holds s m) (f.first m l) t)) (λ l. l) (cases_lt m c) in
    by_farthest s R c p f.passes hp
    (λ m t. let a = first m t in
    let b = first p hp in
    let l = member_below s m t in
    ⊎_elim (λ high. absurd (both_ways (holds s m) (none_above s p e m high) t)) (λ low. omega arith) (cases_lt p m))

pub follows-below : (s : ChannelSet) (p c : ℕ) → Follows s p c → c < 1024
follows-below s p c f = go (next_above s p) refl f.next
  where
    go : (o : Option ℕ) → next_above s p ≡ o → or_lowest s o ≡ Some c → c < 1024
    go (Some d) e q = (next_is s p c (e ∙ q)).below
    go None e q = (lowest-some (holds s) 1024 c q).below

pub by_follows : (s : ChannelSet) (R p c : ℕ) → Follows s p c → can_origin s R c ≡ leb (ahead c p) R
by_follows s R p c f = go (next_above s p) refl f.next
  where
    go : (o : Option ℕ) → next_above s p ≡ o → or_lowest s o ≡ Some c → can_origin s R c ≡ leb (ahead c p) R
    go (Some d) e q = by_before s R p c f.held (e ∙ q)
    go None e q = by_highest s R c p q f.held e

-- the later ones
abbrev later : ChannelSet → ℕ → ℕ → ℕ → Bool
later s R n c = ltb n c && can_origin s R c

pub later-none : (s : ChannelSet) (R n : ℕ) → later_origin s R n (n + 1) ≡ None
later-none s R n = lowest_is_none (later s R n) (n + 1) (λ k l. and_left (ltb n k) (can_origin s R k) (le-ltb n k (omega arith)))

later-gap : (s : ChannelSet) (R n p m : ℕ) → p < m → ((k : ℕ) → p < k → k < m → holds s k ≡ false) → later_origin s R n m ≡ later_origin s R n (p + 1)
later-gap s R n p m l g = lowest-gap (later s R n) (p + 1) m (omega arith) (λ k a b. and_right (ltb n k) (can_origin s R k) (no_member s R k (g k (omega arith) b)))

pub later_more : (s : ChannelSet) (R n p c : ℕ) → n ≤ p → next_above s p ≡ Some c → later_origin s R n (c + 1) ≡ or_else (later_origin s R n (p + 1)) (can_origin s R c) c
unfolding lowest
later_more s R n p c h e =
    let x = next_is s p c e in
    let up = x.up in
    ap (lowest (later s R n)) (add-one c)
    ∙ ap₂ (λ o b. or_else o b c) (later-gap s R n p c up x.between) (ap (λ b. b && can_origin s R c) (lt-ltb n c (omega arith)))

pub later-all : (s : ChannelSet) (R n p : ℕ) → p < 1024 → next_above s p ≡ None → later_origin s R n (p + 1) ≡ later_origin s R n 1024
later-all s R n p l e = sym (later-gap s R n p 1024 l (λ k a b. none_above s p e k a))

-- the origin by the lowest member
pub from_lowest_lem : (s : ChannelSet) (R : ℕ) → origin_of s R ≡ from_lowest s R (lowest_of s)
from_lowest_lem s R = go (lowest_of s) refl
  where
    go : (o : Option ℕ) → lowest_of s ≡ o → origin_of s R ≡ from_lowest s R o
    go None e = lowest_is_none (can_origin s R) 1024 (λ c l. no_member s R c (lowest-none (holds s) 1024 e c l))
    go (Some c) e =
        let f = lowest-some (holds s) 1024 c e in
        ⊎_elim
        (λ t. lowest_is_some (can_origin s R) 1024 c f.below t (λ j l. no_member s R j (f.first j l)) ∙ sym (cond-true (can_origin s R c) (Some c) (later_origin s R c 1024) t))
        (λ n. lowest-same (can_origin s R) (later s R c) 1024 (λ k l. ⊎_elim
        (λ up. ap (λ b. b && can_origin s R k) (sym (lt-ltb c k up)))
        (λ low. no k low n f.first ∙ sym (and_left (ltb c k) (can_origin s R k) (le-ltb c k low))) (cases_lt c k))
        ∙ sym (cond-false (can_origin s R c) (Some c) (later_origin s R c 1024) n))
        (cases_Bool (can_origin s R c))
      where
        no : (k : ℕ) → k ≤ c → can_origin s R c ≡ false → ((j : ℕ) → j < c → holds s j ≡ false) → can_origin s R k ≡ false
        no k l n first = ⊎_elim (λ same. ap (can_origin s R) same ∙ n) (λ other. no_member s R k (first k (omega arith))) (cases_eq k c)
