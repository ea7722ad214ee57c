-- What it means to be origin.
use Rattle.std.proofs.Common.{◌≡◌, ℕ, ◌<◌, ◌≤◌, true, false, not, ltb, leb, is_some, Some, None, Option, sym, refl, ap, ◌∙◌, ⊎_elim, arith}
use Rattle.std.proofs.lemmas.Bool.{and_parts, and_from, and_left, and_right, and_cases, ltb-false, le-ltb, le-leb, lt-leb, cases_lt, cases_Bool, both_ways}
use Rattle.bits.specs.Lowest.{lowest}
use Rattle.bits.proofs.Lows.{lowest-none, lowest-some, lowest_is_none, lowest_is_some}
use Rattle.channels.specs.declared.ChannelSet.{ChannelSet}
use Rattle.channels.specs.Sets.{holds}
use Rattle.channels.proofs.Views.{holds-past}
use Rattle.origins.specs.Origins.{ahead, too_far, reaches, can_origin, origin_of, Origin, First, Begins}

pub member_below : (s : ChannelSet) (c : ℕ) → holds s c ≡ true → c < 1024
member_below s c t = ⊎_elim (λ l. l) (λ l. absurd (both_ways (holds s c) (holds-past s c l) t)) (cases_lt c 1024)

-- every member within reach
abbrev pub Within : ChannelSet → ℕ → ℕ → Type 0
Within s R c = (m : ℕ) → holds s m ≡ true → ahead c m ≤ R

pub within_reach : (s : ChannelSet) (R c : ℕ) → reaches s R c ≡ true → Within s R c
unfolding reaches
within_reach s R c e m t = go (lowest (too_far s R c) 1024) refl e
  where
    go : (o : Option ℕ) → lowest (too_far s R c) 1024 ≡ o → not (is_some o) ≡ true → ahead c m ≤ R
    go None q e =
        ⊎_elim (λ no. absurd (both_ways (holds s m) no t)) (λ no. ltb-false R (ahead c m) no)
        (and_cases (holds s m) (ltb R (ahead c m)) (lowest-none (too_far s R c) 1024 q m (member_below s m t)))
    go (Some k) q e = absurd (both_ways false refl e)

pub reach_within : (s : ChannelSet) (R c : ℕ) → Within s R c → reaches s R c ≡ true
unfolding reaches
reach_within s R c h =
    ap (λ o. not (is_some o)) (lowest_is_none (too_far s R c) 1024 (λ m l. ⊎_elim (λ t. and_right (holds s m) (ltb R (ahead c m)) (le-ltb R (ahead c m) (h m t))) (λ t. and_left (holds s m) (ltb R (ahead c m)) t) (cases_Bool (holds s m))))

-- a member that is too far ahead
pub not_reach : (s : ChannelSet) (R c m : ℕ) → holds s m ≡ true → R < ahead c m → reaches s R c ≡ false
not_reach s R c m t l = ⊎_elim (λ e. absurd (let n = within_reach s R c e m t in omega arith)) (λ e. e) (cases_Bool (reaches s R c))

-- what an origin is
pub can_origin_lem : (s : ChannelSet) (R c : ℕ) → can_origin s R c ≡ true → Origin s R c
unfolding can_origin
can_origin_lem s R c e = let p = and_parts (holds s c) (reaches s R c) e in record { held = p.0; within = within_reach s R c p.1 }

pub origin_can : (s : ChannelSet) (R c : ℕ) → Origin s R c → can_origin s R c ≡ true
unfolding can_origin
origin_can s R c o = and_from (holds s c) (reaches s R c) o.held (reach_within s R c o.within)

pub no_member : (s : ChannelSet) (R c : ℕ) → holds s c ≡ false → can_origin s R c ≡ false
unfolding can_origin
no_member s R c e = and_left (holds s c) (reaches s R c) e

-- the lowest one
pub origin-some : (s : ChannelSet) (R c : ℕ) → origin_of s R ≡ Some c → First s R c
origin-some s R c e =
    let f = lowest-some (can_origin s R) 1024 c e in
    record { below = f.below; origin = can_origin_lem s R c f.passes; lower = λ b l o. both_ways (can_origin s R b) (f.first b l) (origin_can s R b o) }

pub some-origin : (s : ChannelSet) (R c : ℕ) → First s R c → origin_of s R ≡ Some c
some-origin s R c f =
    lowest_is_some (can_origin s R) 1024 c f.below (origin_can s R c f.origin)
    (λ b l. ⊎_elim (λ t. absurd (f.lower b l (can_origin_lem s R b t))) (λ n. n) (cases_Bool (can_origin s R b)))

-- none
pub origin-none : (s : ChannelSet) (R : ℕ) → origin_of s R ≡ None → (c : ℕ) → Origin s R c → ⊥
origin-none s R e c o = both_ways (can_origin s R c) (lowest-none (can_origin s R) 1024 e c (member_below s c o.held)) (origin_can s R c o)

pub none-origin : (s : ChannelSet) (R : ℕ) → ((c : ℕ) → Origin s R c → ⊥) → origin_of s R ≡ None
none-origin s R h = lowest_is_none (can_origin s R) 1024 (λ c l. ⊎_elim (λ t. absurd (h c (can_origin_lem s R c t))) (λ n. n) (cases_Bool (can_origin s R c)))

pub begins : (s : ChannelSet) (R : ℕ) → Begins s R (origin_of s R)
begins s R = go (origin_of s R) refl
  where
    go : (o : Option ℕ) → origin_of s R ≡ o → Begins s R o
    go (Some c) e = origin-some s R c e
    go None e = origin-none s R e

-- a member whose farthest one is known: it can be origin if that one is within reach
pub by_farthest : (s : ChannelSet) (R c p : ℕ) → holds s c ≡ true → holds s p ≡ true → ((m : ℕ) → holds s m ≡ true → ahead c m ≤ ahead c p) → can_origin s R c ≡ leb (ahead c p) R
by_farthest s R c p hc hp far =
    ⊎_elim
    (λ l. ⊎_elim (λ t. absurd (let n = (can_origin_lem s R c t).within p hp in omega arith)) (λ n. n) (cases_Bool (can_origin s R c)) ∙ sym (lt-leb (ahead c p) R l))
    (λ l. origin_can s R c (record { held = hc; within = λ m t. let n = far m t in omega arith }) ∙ sym (le-leb (ahead c p) R l))
    (cases_lt R (ahead c p))
