-- Lines and frames (Lines, Frames), what the reader answers (Reading), what the program writes (Output), and paper 01's whole case;
-- laws of digits (Digits), of frames (FrameLaws) and of the reader's steps (Laws), how long an accepted text is (Size), and that its
-- records have no fault (Sound); how long the output is (OutputSize).
pub mod Lines
pub mod Frames
pub mod Reading
pub mod Output
pub mod OutputSize
pub mod WholeCase
