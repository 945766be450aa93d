-- Schedules that were worked out by hand.
use Rattle.std.specs.Prelude.{ℕ, List, [], ◌∷◌, codes, Bool, false, not, Option, Some, None}
use Rattle.al_rules_formats.specs.Schedules.{is_too_often, schedule_of}
use Rattle.al_rules_formats.specs.declared.schedules.Item.{Item}

-- the numbers from low to high, in steps
abbrev pub every : ℕ → ℕ → ℕ → Item
every low high step = record { low = low; high = high; step = step }

-- whether there are items of which this is true
abbrev pub has_items : (List Item → Bool) → Option (List Item) → Bool
has_items p None = false
has_items p (Some items) = p items

abbrev pub runs_too_often : List ℕ → Bool
runs_too_often text = has_items is_too_often (schedule_of text)

abbrev pub runs_seldom : List ℕ → Bool
runs_seldom text = has_items (λ items. not (is_too_often items)) (schedule_of text)

-- schedules that may run
abbrev pub right_schedules : List (List ℕ)
right_schedules =
    (codes "*/5 * * * *") ∷ (codes "*/59 * * * *") ∷ (codes "0 0 1 JAN sun")
    ∷ (codes "0,59 * * * *") ∷ (codes "  0  0 * * *  ")
    ∷ (codes "0 0 * feb-apr *") ∷ (codes "0 0 * * MON-FRI") ∷ (codes "1-10/5 * * * *")
    ∷ (codes "00 05 01 01 00")
    ∷ (codes "007 * * * *") ∷ (codes "0 0 1 */12 *") ∷ (codes "0 0 1 1 */6")
    ∷ (codes "0,5,10 * * * *") ∷ (codes "56/5 * * * *")
    ∷ (codes "55-59/5 * * * *") ∷ (codes " 0 0 28 1 1 ") ∷ (codes " 0 *,00 * 1 * ")
    ∷ (codes "0 4/23 1 1 1") ∷ (codes "0 * * * 1")
    ∷ (codes "0 * 3/2 1 1") ∷ (codes "0 * 8-22 1 *") ∷ (codes "0 * * * *") ∷ (codes "0 0 1 1 1")
    ∷ (codes "48 * * 1 *") ∷ (codes "0 * 17/4 * *") ∷ (codes "0 0 */15 1 1") ∷ []

-- texts that are no schedules
abbrev pub wrong_schedules : List (List ℕ)
wrong_schedules =
    (codes "0 0 * * 7") ∷ (codes "5/60 * * * *") ∷ (codes "0 0 * *") ∷ (codes "0 0 * * * *")
    ∷ (codes "60 * * * *")
    ∷ (codes "0 24 * * *") ∷ (codes "0 0 0 * *") ∷ (codes "0 0 32 * *") ∷ (codes "0 0 * 0 *")
    ∷ (codes "0 0 * 13 *")
    ∷ (codes "0 0 * apr-feb *") ∷ (codes "0 0 * * fri-mon") ∷ (codes "10-1 * * * *")
    ∷ (codes "*/0 * * * *") ∷ (codes "*/60 * * * *")
    ∷ (codes "* */24 * * *") ∷ (codes "1,,2 * * * *") ∷ (codes "1, * * * *") ∷ (codes ", * * * *")
    ∷ (codes "1-2-3 * * * *")
    ∷ (codes "1/2/3 * * * *") ∷ (codes "*-5 * * * *") ∷ (codes "+5 * * * *") ∷ (codes "5- * * * *")
    ∷ (codes "-5 * * * *") ∷ []
    ∷ (codes "     ") ∷ (codes "a b c d e") ∷ (codes "* * JAN * *") ∷ (codes "* * * * jan")
    ∷ (codes "0 0 1 */13 *")
    ∷ (codes "0 0 1 1 */7") ∷ (codes "4294967296 * * * *") ∷ (codes "0\t0 * * *")
    ∷ (codes "0 0 l * *")
    ∷ (codes "@daily") ∷ (codes "* 17-13 1 * 3/15 ") ∷ (codes "49 * * * */7,2,3 ")
    ∷ (codes "*\t0\t1\t1\t*,6-1") ∷ (codes "3-16 */3/2,00--1 1 7-2/ 1")
    ∷ (codes " *,14-9/*,1-4 2 * * 1") ∷ (codes "0 * 30-31,16/32,+1 12-1/*,*,1.5/3/2 *")
    ∷ (codes "*,*,* 0 1 1-+1/1,*/12,*/x x-0,7,3")
    ∷ (codes " * *,4-21,1.5-9 5/1 * *") ∷ (codes "0 * feb-5/x 1 *") ∷ (codes "0 0 * * */*,*/6 ")
    ∷ (codes "0 * * *,+1-0 *")
    ∷ (codes "0 * -1,*,11 1 * *") ∷ (codes "11-9/*,*,31-45 0 * * 2/0,*/7")
    ∷ (codes " 7-53 * -1,* *-11/5,-1-7/12 1")
    ∷ (codes "0 23-11/x 1 *") ∷ (codes "* * 1 x *")
    ∷ (codes "*/05,*/0 0 */3/2,2-*,23/2 6-10/13 * * ") ∷ (codes "0 * * 1 1-0/05,0-3")
    ∷ (codes "*,007-40/99999999999999999999,-1 0 1 * *") ∷ (codes "1.5-27 * Sat,*/05 * 1")
    ∷ (codes "0 * * 8/13 */99999999999999999999,-1-7,*/6 ") ∷ (codes "*/* 0 1 9-1 1")
    ∷ (codes "* 0 * */15 1 ")
    ∷ (codes " 8-17,x-35/x,26-24 12/15 * * * ") ∷ (codes "0 0 * * 6,x") ∷ (codes "0 3/x * 1 1")
    ∷ (codes "15/1 0 1 1 2,1.5-1/05") ∷ (codes "18-54 */05,*/3/2,20/3/2 1 * 1")
    ∷ (codes "40/99999999999999999999 13-12,*,*/23 32-25 * *")
    ∷ (codes "0 * *,3,3-17 1.5-x/* *") ∷ (codes " 0 */4 1 *,4-2,-1-0 ") ∷ (codes "0 * * * 7-2/x ")
    ∷ (codes "0 * 32/,24-12/32 1,4,7/12 6-2,007-1,0-1 ") ∷ (codes "0 0 14-007,31,21 1 *")
    ∷ (codes "*,57 13,+1/24,*/99999999999999999999 * * 5-6,3-1,*-JAN")
    ∷ (codes "*,27/99999999999999999999,* * 1 * *,3-5/0,*")
    ∷ (codes " * 2-17,*/3/2 1 */99999999999999999999,+1-12/99999999999999999999,9 * ")
    ∷ (codes " 0 0 -1--1/5 1 -1-+1,2--1,*")
    ∷ (codes " * 0 * *,00-10 *,*/1,*-/ ") ∷ (codes "0 * 007-9,* 7/15,+1,*/12 * ")
    ∷ (codes " 30-36/,*,43 0 * * *")
    ∷ (codes " * * 1 -1-4,1-6 1") ∷ (codes "* 0 * * 1-5,3-007,0-x/99999999999999999999")
    ∷ (codes "* 12/*,*/ 10,22-5/3/2,4 1 1")
    ∷ (codes "0 0 15/0 4 1") ∷ (codes "*/4,39-4 +1-12/5,18,*/24 6-30 1 5,0-6,4-0")
    ∷ (codes " 0 0 * *,5 *,1-4,0-* ")
    ∷ (codes " 0 19-8,0 1 * 1") ∷ (codes "* 0 */1,11,24-22/31 * */1,*") ∷ (codes "0 * * 8-7,1 * ")
    ∷ (codes " 0 * * * 2-2/*,*/1,3 ") ∷ (codes " * 0 * 1 -1-1/1,00 ") ∷ []

-- schedules that run more than once in five minutes
abbrev pub frequent_schedules : List (List ℕ)
frequent_schedules =
    (codes "*/4 * * * *") ∷ (codes "5/3 * * * *") ∷ (codes "0,3 * * * *") ∷ (codes "* * * * *")
    ∷ (codes "1-10/4 * * * *")
    ∷ (codes "* */23 * * *") ∷ (codes "0,5,9 * * * *") ∷ (codes "007-18 0 * * 1")
    ∷ (codes "* * 10 * 1") ∷ (codes "* 0 7-24/5 1 5,* ")
    ∷ (codes "* * * 1 1") ∷ (codes " * 0 12 1 *") ∷ (codes "* 0 * * *") ∷ (codes "*/2 * * 1-11 */5")
    ∷ (codes "* 0 */1 *,* 1") ∷ (codes " 00-13 * 1 1 * ") ∷ []
