mod Mistakes
