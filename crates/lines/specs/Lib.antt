-- What the code's values stand for (Meaning), laws of the frames' layouts (Layouts); where lines end (LineEnds).
pub mod Meaning
pub mod Layouts
pub mod LineEnds
