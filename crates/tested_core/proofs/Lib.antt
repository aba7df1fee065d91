mod Kept
