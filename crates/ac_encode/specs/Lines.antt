-- The line of a frame in the report, this project's own. Each line ends with a line feed.
use Rattle.std.specs.Prelude.{ℕ, List, ◌++◌, codes, decimal}
use Rattle.ac_plan.specs.declared.answer.Plan.{Plan}
use Rattle.ac_plan.specs.declared.answer.Mark.{Mark}
use Rattle.ac_plan.specs.declared.answer.Mark.TheVariants as marks

-- ` best S`, or ` bounded S U`: the SNR offset of the plan; at no greater one, or at none above U, an assignment fits
abbrev pub mark_words : Mark → ℕ → List ℕ
mark_words marks.Best offset = codes " best " ++ decimal offset
mark_words (marks.Bounded upper) offset = codes " bounded " ++ decimal offset ++ codes " " ++ decimal upper

-- `frame I size Z best S`: the frame's number, its size in bytes, and its plan
abbrev pub frame_line : ℕ → ℕ → Plan → List ℕ
frame_line i size plan =
    codes "frame " ++ decimal i ++ codes " size " ++ decimal size ++ mark_words plan.mark plan.offset ++ codes "\n"
