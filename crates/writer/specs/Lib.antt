-- Bytes written to a buffer from a place on (Appended); laws of frames (Frames).
pub mod Appended
pub mod Frames
